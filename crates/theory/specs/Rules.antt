-- "Diagrams", second part: the rules, each defined once, as a computation.
use Rattle.std.specs.Prelude.{Bool, true, false, ◌&&◌, List, [], ◌∷◌, ℕ, zero, suc, eqb, ℤ, pos, ◌-ℤ◌}
use Prim.Native.Nat.{Ordering}
use Rattle.std.proofs.Math.Dec.{compare_is_eq}
use Rattle.std.specs.Int.Signed.{le_z, lt_z}
use Rattle.whole.specs.Cases.{if}
use Rattle.theory.specs.Diagram.{Linear, Test, now, later, linear, Leaf, some, forbidden, lin_of, zero_linear, Tree, leaf, branch, plain, cmp_ℤ, cmp_list, cmp, same, ◌⊞◌, ◌⊠◌, ◌⊟◌, plus_constant, zeros, test_of}
use Rattle.theory.specs.Computation.{Comp, ret, named, bind, make, judge, both}

-- ---- making a node

-- "a later test with the same coefficients and a larger constant": the second is parallel to the first
unfoldable pub parallel : Test → Test → Bool
parallel (now i) u = false
parallel (later i) u = false
parallel (linear p) (now j) = false
parallel (linear p) (later j) = false
parallel (linear p) (linear q) = compare_is_eq (cmp_list p.coeffs q.coeffs) && lt_z p.const q.const

-- "replaces a low branch that begins so by that branch's own low side, as often as it applies"
unfoldable pub narrowed : Test → Tree → Tree
narrowed t (leaf f) = leaf f
narrowed t (branch u h l) = if (parallel t u) (narrowed t l) (branch u h l)

-- "Making a node now first replaces a low branch": then "A node whose branches are equal is that branch."
unfoldable pub node : Test → Tree → Tree → Comp Tree
node t h l = if (same h (narrowed t l)) (ret h) (make (branch t h (narrowed t l)))

-- ---- by the first root

-- t over f of the high side and g of the low side of a diagram, at t's place in the order; "each operand whole where t is not its root"
unfoldable pub step : (Test → Tree → Tree → Comp Tree) → Test → (Tree → Comp Tree) → (Tree → Comp Tree) → Tree → Comp Tree
step mk t f g (leaf x) = both (mk t) (f (leaf x)) (g (leaf x))
step mk t f g (branch u h l) = elim (cmp t u) [
  | Ordering.lt ↦ both (mk t) (f (branch u h l)) (g (branch u h l))
  | Ordering.eq ↦ both (mk t) (f h) (g l)
  | Ordering.gt ↦ both (mk u) (step mk t f g h) (step mk t f g l)
]

-- "Choose (t, high, low): let u be the first of t and the two roots. If u is t, a node of t over high's high branch and low's low branch .. Else a node of u over choose on the high sides, then on the low sides."
unfoldable pub choose : Test → Tree → Tree → Comp Tree
choose t (leaf x) G = step node t (λ _. ret (leaf x)) ret G
choose t (branch u h l) G = elim (cmp t u) [
  | Ordering.lt ↦ step node t (λ _. ret (branch u h l)) ret G
  | Ordering.eq ↦ step node t (λ _. ret h) ret G
  | Ordering.gt ↦ step node u (choose t h) (choose t l) G
]

-- each leaf in turn: "A bare number acts on the leaves and is no node."
unfoldable pub over : (Test → Tree → Tree → Comp Tree) → (Leaf → Comp Tree) → Tree → Comp Tree
over mk op (leaf g) = op g
over mk op (branch u h l) = both (mk u) (over mk op h) (over mk op l)

-- "go by the first root in the same way and combine leaves"
unfoldable pub merge : (Test → Tree → Tree → Comp Tree) → (Leaf → Leaf → Comp Tree) → Tree → Tree → Comp Tree
merge mk op (leaf f) G = over mk (op f) G
merge mk op (branch u h l) G = step mk u (merge mk op h) (merge mk op l) G

-- ---- leaves

-- a leaf without action, its numbers named first
unfoldable pub make_leaf : Linear → Comp Tree
make_leaf p = judge p (make (leaf (plain p)))

-- "a leaf 0"
unfoldable pub zero_leaf : Tree
zero_leaf = leaf (plain zero_linear)

-- "a leaf "forbidden"": "a leaf "none""
abbrev pub none_leaf : Tree
none_leaf = leaf forbidden

-- two leaves added: "a sum with it .. is it"
unfoldable pub leaf_sum : Leaf → Leaf → Comp Tree
leaf_sum forbidden g = make none_leaf
leaf_sum (some p a) forbidden = make none_leaf
leaf_sum (some p a) (some q b) = make_leaf (p ⊞ q)

-- a number times a leaf: "or a product not by 0, is it"
unfoldable pub leaf_scale : ℤ → Leaf → Comp Tree
leaf_scale c (some q b) = make_leaf (c ⊠ q)
leaf_scale c forbidden = make (if (compare_is_eq (cmp_ℤ c (pos 0))) zero_leaf none_leaf)

-- the constant of a weight times a leaf
unfoldable pub leaf_product : Leaf → Leaf → Comp Tree
leaf_product f g = leaf_scale (lin_of f).const g

-- a leaf of a level plus a number
unfoldable pub leaf_shift : ℤ → Leaf → Comp Tree
leaf_shift c g = make_leaf (plus_constant c (lin_of g))

-- "W − w"
unfoldable pub leaf_complement : ℕ → Leaf → Comp Tree
leaf_complement W g = make_leaf (record { coeffs = (lin_of g).coeffs; const = pos W -ℤ (lin_of g).const })

-- "number the leaves with the action"; a leaf "none" has no action
unfoldable pub leaf_number : ℕ → Leaf → Comp Tree
leaf_number a (some p b) = make (leaf (some p a))
leaf_number a forbidden = make none_leaf

-- "a constant decides, another linear is a choose": the first where p ≤ 0
unfoldable pub decide : Linear → Tree → Tree → Comp Tree
decide p H L = if (zeros p.coeffs) (if (le_z p.const (pos 0)) (ret H) (ret L)) (choose (test_of p) H L)

-- "at two leaves f, g let d = g − f; a constant d gives f when d ≤ 0, else g; otherwise choose (d, f, g)"; a forbidden one "loses to any other leaf", and d is not worked out
unfoldable pub leaf_best : Leaf → Leaf → Comp Tree
leaf_best forbidden g = ret (leaf g)
leaf_best (some p a) forbidden = ret (leaf (some p a))
leaf_best (some p a) (some q b) = judge (q ⊟ p) (decide (q ⊟ p) (leaf (some p a)) (leaf (some q b)))

-- ---- the rules

-- "Sum"
unfoldable pub sum : Tree → Tree → Comp Tree
sum = merge node leaf_sum

-- a weight diagram times a diagram
unfoldable pub product : Tree → Tree → Comp Tree
product = merge node leaf_product

-- a number times a diagram
unfoldable pub scale : ℤ → Tree → Comp Tree
scale c = over node (leaf_scale c)

-- a diagram plus a number
unfoldable pub shift : ℤ → Tree → Comp Tree
shift c = over node (leaf_shift c)

-- W − a weight diagram
unfoldable pub complement : ℕ → Tree → Comp Tree
complement W = over node (leaf_complement W)

-- a diagram whose leaves are numbered with an action
unfoldable pub number : ℕ → Tree → Comp Tree
number a = over node (leaf_number a)

-- "Above leaves, choose on the first root of the two results."
unfoldable pub best : Tree → Tree → Comp Tree
best = merge choose leaf_best

-- ---- substitute

-- the running sum F and the levels that are left: "Sums run over levels in order, constant last."
unfoldable pub sum_on : Tree → List ℤ → List Tree → Comp Tree
sum_on F [] Ns = ret F
sum_on F (c ∷ cs) [] = ret F
sum_on F (c ∷ cs) (D ∷ Ds) = bind (scale c D) (λ G. bind (sum F G) (λ S. sum_on S cs Ds))

-- "the sum over levels 1 to m of coefficient × next-level diagram, zero coefficients too"
unfoldable pub levels_sum : List ℤ → List Tree → Comp Tree
levels_sum [] Ds = make zero_leaf
levels_sum (c ∷ cs) [] = make zero_leaf
levels_sum (c ∷ cs) (D ∷ Ds) = bind (scale c D) (λ F. sum_on F cs Ds)

-- "plus the constant"
unfoldable pub linear_diagram : List Tree → Linear → Comp Tree
linear_diagram Ds p = bind (levels_sum p.coeffs Ds) (shift p.const)

-- "A condition becomes the next_step one, by choose. A test's linear is built the same way; at each leaf of that diagram a constant
-- decides, another linear is a choose between the substituted branches. Above leaves it is choose on that diagram's root."
-- A forbidden leaf: "substitution leaves it as it is"
unfoldable pub substitute : List Tree → Tree → Comp Tree
substitute Ds (leaf (some p a)) = linear_diagram Ds p
substitute Ds (leaf forbidden) = make none_leaf
substitute Ds (branch (now k) h l) = both (choose (later k)) (substitute Ds h) (substitute Ds l)
substitute Ds (branch (later k) h l) = both (choose (later k)) (substitute Ds h) (substitute Ds l)
substitute Ds (branch (linear p) h l) =
    bind (linear_diagram Ds p) (λ P. bind (substitute Ds h) (λ H. bind (substitute Ds l) (λ L. over choose (λ f. decide (lin_of f) H L) P)))

-- ---- conditions summed out

-- a test is next_step condition k
unfoldable pub is_later : ℕ → Test → Bool
is_later k (now j) = false
is_later k (later j) = eqb j k
is_later k (linear p) = false

-- "a side has each node of that next-step condition replaced by its high (yes) or low branch"
unfoldable pub side : Bool → ℕ → Tree → Comp Tree
side b k (leaf f) = ret (leaf f)
side b k (branch t h l) = elim (is_later k t) [
  | true ↦ if b (side b k h) (side b k l)
  | false ↦ both (node t) (side b k h) (side b k l)
]

-- "w × the yes side + (W − w) × the no side"
unfoldable pub expectation : ℕ → Tree → ℕ → Tree → Comp Tree
expectation W w k F =
    bind (side true k F)
    (λ Y. bind (product w Y)
    (λ P. bind (complement W w)
    (λ v. bind (side false k F)
    (λ N. bind (product v N)
    (λ Q. sum P Q)))))

-- "add W^(n×h) × reward and number the leaves with the action"
unfoldable pub add_reward : ℕ → Tree → ℕ → Tree → Comp Tree
add_reward power reward a F = named (pos power) (bind (scale (pos power) reward) (λ R. bind (sum F R) (number a)))
