-- Reading a value: the walk over a solved table's words ends at the leaf that the diagram comes to, and gives what it comes to.
use Rattle.std.specs.Prelude.{◌≡◌, Bool, true, false, ◌&&◌, List, [], ◌∷◌, ◌++◌, map, T, eqb, ltb, ℤ, pos, negsuc, ◌+ℤ◌, ◌*ℤ◌, length, get_or, take, drop, replicate}
use Rattle.std.proofs.Math.Path.{refl, ap, ap₂}
use Rattle.std.proofs.Common.{◌∙◌, ⊎_elim, arith, le_refl, le_antisymm, eq-or-lt_of_le, eq-eqb, ne_eqb, length-append}
use Prim.Native.Nat.{ℕ, zero, suc, ◌+◌, ◌-◌, ◌*◌, ◌^◌, ◌≤◌, ◌<◌}
use Rattle.std.proofs.Math.Nat.{max-le, le-max_left, le-max_right}
use Rattle.std.proofs.Math.Dec.{compare_is_eq}
use Rattle.std.proofs.Math.IntN.{nat_abs, zero-*ℤ}
use Rattle.std.proofs.lemmas.List.{length-replicate, length-map}
use Rattle.std.specs.Int.Signed.{le_z}
use Rattle.whole.specs.Cases.{if, by_test, both, is_true}
use Rattle.whole.specs.Int.{up, ring}
use Rattle.whole.specs.Numerator.{words}
use Rattle.theory.specs.Widths.{steps_most}
use Rattle.theory.specs.Diagram.{Linear, Test, now, later, linear, Leaf, some, forbidden, lin_of, act_of, no_coeffs, zero_linear, Tree, leaf, branch, cmp_ℤ, zeros, padded}
use Rattle.theory.specs.Computation.{member}
use Rattle.theory.specs.Rules.{zero_leaf}
use Rattle.theory.specs.Meaning.{Env, nth, env, dot, value, holds, at, leaf_worth, worth_at}
use Rattle.theory.specs.Valid.{all, all_nodes, good_test, stage_leaf}
use Rattle.theory.specs.Verdict.{Verdict}
use Rattle.theory.specs.Load.{site_at}
use Rattle.theory.specs.Solve.{number_of, leaf_kind, rows, row, test_words, table_of, solved_nodes, solved_stages, early}
use Rattle.theory.specs.Value.{Asked, accepted, bits, state_of, node_word, node_linear, high_of, good_row, numerator_of, taken, ends, walk, ValueOut, refused_value, answered, value_at, value_of}
use Rattle.theory.specs.Listing.{greatest_root}
use Rattle.theory.proofs.laws.Comps.{cmp_ℤ_eq}
use Rattle.theory.proofs.laws.Values.{if_ap, value_constant}
use Rattle.theory.proofs.laws.Nodes.{parts}
use Rattle.theory.proofs.laws.Valid.{stage_wide}
use Rattle.theory.proofs.laws.Expectation.{at_good}
use Rattle.theory.proofs.laws.Table.{number_below, last_entered, number_above, TreeTable, table_of_table, table_of_has}
use Rattle.theory.proofs.laws.Words.{StageGood, laid, node_words_are, leaf_shows, condition_shows, test_shows, node_good}

-- ---- a state as it is asked

dot_zeros_right : (c x : List ℤ) → T (zeros x) → dot c x ≡ pos 0
unfolding dot zeros
dot_zeros_right [] x t = refl
dot_zeros_right (c ∷ cs) [] t = refl
dot_zeros_right (c ∷ cs) (y ∷ x) t =
    let d = both (compare_is_eq (cmp_ℤ y (pos 0))) (zeros x) t in
    step y (dot cs x) (cmp_ℤ_eq y (pos 0) d.0) (dot_zeros_right cs x d.1)
  where
    step : (y d : ℤ) → y ≡ pos 0 → d ≡ pos 0 → c *ℤ y +ℤ d ≡ pos 0
    step y d h k = rw (h, k) (simp ring)

-- numerators that are zero beyond level m tell nothing
dot_take : (m : ℕ) (c x : List ℤ) → T (zeros (drop m x)) → dot c x ≡ dot c (take m x)
unfolding dot
dot_take m [] x t = refl
dot_take zero (c ∷ cs) x t = dot_zeros_right (c ∷ cs) x t
dot_take (suc m) (c ∷ cs) [] t = refl
dot_take (suc m) (c ∷ cs) (y ∷ x) t = ap (λ (z : ℤ). c *ℤ y +ℤ z) (dot_take m cs x t)

den_up : (z : ℤ) → T (le_z (pos 1) z) → z ≡ pos (up z)
den_up (pos n) t = refl
den_up (negsuc n) t = absurd t

-- what accepted says of q
accepted_parts : (m n : ℕ) (q : Asked) → T (accepted m n q) → T (le_z (pos 1) q.den) × T (zeros (drop m q.nums))
unfolding accepted
accepted_parts m n q t =
    let d = both (le_z (pos 1) q.den) (ltb q.mask (2 ^ n) && zeros (drop m q.nums)) t in
    (d.0, (both (ltb q.mask (2 ^ n)) (zeros (drop m q.nums)) d.1).1)

-- a table that has a diagram has the leaf that it comes to
pub at_in : (e : Env) (X : List Tree) → TreeTable X → (F : Tree) → member F X ≡ true → member (leaf (at e F)) X ≡ true
unfolding at
at_in e X x (leaf f) m = m
at_in e X x (branch t h l) m =
    let b = x.closed t h l m in
    by_test (holds e t) (λ b. member (leaf (if b (at e h) (at e l))) X ≡ true) (λ _. at_in e X x h b.high_in) (λ _. at_in e X x l b.low_in)

module _ (m n : ℕ) (q : Asked) (ok : T (accepted m n q)) where
  -- the state that is asked for, and what its tests are judged by
  abbrev pub asked_env : Env
  asked_env = env (state_of m n q ok) []

  pub value_asked : (p : Linear) → numerator_of q p ≡ value asked_env p
  unfolding numerator_of value env state_of
  value_asked p =
      let d = accepted_parts m n q ok in
      ap₂ (λ (x y : ℤ). x +ℤ p.const *ℤ y) (dot_take m p.coeffs q.nums d.1) (den_up q.den d.0)

  -- the branch taken, from a node's words
  abbrev taken_by : ℤ → ℤ → Linear → ℤ → ℤ → ℕ
  taken_by k w p h l = nat_abs (if (if (eqb (nat_abs k) 1) (nth (bits n q.mask) (nat_abs w)) (le_z (numerator_of q p) (pos 0))) h l)

  module _ (X : List Tree) (tail : List ℤ) (x : TreeTable X) (A : ℕ) where
    abbrev W : List ℤ
    W = laid X tail

    -- a node's test is judged from its words
    pub taken_is : (t : Test) (h l : Tree) → member (branch t h l) X ≡ true → T (good_test n false t)
        → taken n q W (number_of (branch t h l) X) ≡ if (holds asked_env t) (number_of h X) (number_of l X)
    unfolding taken good_test holds env state_of row test_words padded
    taken_is (now k) h l m g =
        let s = condition_shows X tail k h l m in
        let w1 = node_words_are X tail (branch (now k) h l) m 1 (omega arith) in
        (λ i. taken_by (s.kind i) (w1 i) (s.numbers i) (s.high i) (s.low i)) ∙ if_ap nat_abs (nth (bits n q.mask) k) (pos (number_of h X)) (pos (number_of l X))
    taken_is (later k) h l m g = absurd g
    taken_is (linear p) h l m g =
        let s = test_shows X tail p h l m g in
        (λ i. taken_by (s.kind i) (node_word W (number_of (branch (linear p) h l) X) 1) (s.numbers i) (s.high i) (s.low i))
        ∙ (if_ap nat_abs (le_z (numerator_of q p) (pos 0)) (pos (number_of h X)) (pos (number_of l X))
        ∙ ap (λ (z : ℤ). if (le_z z (pos 0)) (number_of h X) (number_of l X)) (value_asked p))

    branch_kind : (t : Test) (h l : Tree) → member (branch t h l) X ≡ true → T (good_test n false t) → ends (nat_abs (node_word W (number_of (branch t h l) X) 0)) ≡ false
    unfolding good_test ends
    branch_kind (now k) h l m g = ap (λ (z : ℤ). ends (nat_abs z)) (condition_shows X tail k h l m).kind
    branch_kind (later k) h l m g = absurd g
    branch_kind (linear p) h l m g = ap (λ (z : ℤ). ends (nat_abs z)) (test_shows X tail p h l m g).kind

    leaf_ends : (f : Leaf) → ends (nat_abs (leaf_kind f)) ≡ true
    unfolding leaf_kind ends
    leaf_ends (some p a) = refl
    leaf_ends forbidden = refl

    -- a step of the walk, from whether the node is good and whether it is a leaf
    abbrev turn : ℕ → ℕ → Bool → Bool → ℕ
    turn k r b z = elim b [
      | true ↦ if z r (walk n A q W k (taken n q W r))
      | false ↦ 0
    ]

    -- the walk from a node ends at the leaf that its diagram comes to
    pub walk_at : (t : Tree) (k : ℕ) → number_of t X ≤ k → member t X ≡ true → StageGood n A t → walk n A q W k (number_of t X) ≡ number_of (leaf (at asked_env t)) X
    unfolding walk at all_nodes
    walk_at t zero h m g = absurd (omega (arith, number_above t X m))
    walk_at (leaf f) (suc k) h m g =
        ap₂ (turn k (number_of (leaf f) X)) (is_true (good_row n A W (number_of (leaf f) X)) (node_good X tail x n A (leaf f) m g))
        (ap (λ (z : ℤ). ends (nat_abs z)) (leaf_shows X tail f m (stage_wide A f g)).kind ∙ leaf_ends f)
    walk_at (branch t a b) (suc k) h m g =
        let d = parts (good_test n false) (stage_leaf A) t a b g in
        let c = x.closed t a b m in
        let high = walk_at a k (omega arith) c.high_in d.1.0 in
        let low = walk_at b k (omega arith) c.low_in d.1.1 in
        ap₂ (turn k (number_of (branch t a b) X)) (is_true (good_row n A W (number_of (branch t a b) X)) (node_good X tail x n A (branch t a b) m g)) (branch_kind t a b m d.0)
        ∙ (ap (walk n A q W k) (taken_is t a b m d.0)
        ∙ by_test (holds asked_env t) (λ z. walk n A q W k (if z (number_of a X) (number_of b X)) ≡ number_of (leaf (if z (at asked_env a) (at asked_env b))) X) (λ _. high) (λ _. low))

    -- what is read: the action and the worth of the leaf that a diagram comes to
    abbrev pub answer : Tree → ValueOut
    answer t = answered (worth_at asked_env t) (act_of (at asked_env t))

    -- the words of a leaf "none" read as none
    leaf_answer : (f : Leaf) → record { number = 0; place = 0; action = act_of f; numerator = words (value asked_env (lin_of f)) } ≡ answered (leaf_worth asked_env f) (act_of f)
    unfolding answered leaf_worth lin_of act_of no_coeffs zeros
    leaf_answer (some p a) = refl
    leaf_answer forbidden = ap (λ (z : ℤ). record { number = 0; place = 0; action = 0; numerator = words z }) (value_constant asked_env zero_linear tt ∙ zero-*ℤ (pos asked_env.den))

    leaf_read : (f : Leaf) → member (leaf f) X ≡ true → T (stage_leaf A f) → value_at q W (number_of (leaf f) X) ≡ answered (leaf_worth asked_env f) (act_of f)
    unfolding value_at
    leaf_read f m g =
        let s = leaf_shows X tail f m (stage_wide A f g) in
        let a = number_above (leaf f) X m in
        ap (λ (b : Bool). if b (refused_value 14 0) (record {
          number = 0;
          place = 0;
          action = nat_abs (high_of W (number_of (leaf f) X));
          numerator = words (numerator_of q (node_linear W (number_of (leaf f) X)));
        })) (ne_eqb (number_of (leaf f) X) 0 (λ e. omega arith))
        ∙ (λ i. record { number = 0; place = 0; action = nat_abs (s.high i); numerator = words ((ap (numerator_of q) s.numbers ∙ value_asked (lin_of f)) i) })
        ∙ leaf_answer f

    pub value_read : (t : Tree) → member t X ≡ true → StageGood n A t → value_at q W (walk n A q W (number_of t X) (number_of t X)) ≡ answer t
    unfolding worth_at
    value_read t m g =
        ap (value_at q W) (walk_at t (number_of t X) (le_refl (number_of t X)) m g)
        ∙ leaf_read (at asked_env t) (at_in asked_env X x t m) (at_good asked_env (good_test n false) (stage_leaf A) t g)

-- ---- the stage words

stage_word : (f : Tree → ℕ) (d : Tree) (S : List Tree) (R : List ℕ) (i : ℕ) → i < length S → get_or (map f S ++ R) i 0 ≡ f (get_or S i d)
stage_word f d [] R i h = absurd (omega arith)
stage_word f d (t ∷ S) R zero h = refl
stage_word f d (t ∷ S) R (suc i) h = stage_word f d S R i (omega arith)

-- stage h's word is its root's number in the table
pub stage_number : (S : List Tree) (h : ℕ) → 1 ≤ h → h ≤ length S → get_or (solved_stages S) (h - 1) 0 ≡ number_of (get_or S (h - 1) zero_leaf) (table_of S)
unfolding solved_stages
stage_number S h a b = stage_word (λ t. number_of t (table_of S)) zero_leaf S (replicate (steps_most - length S) 0) (h - 1) (omega arith)

pub stage_in : (S : List Tree) (h : ℕ) → 1 ≤ h → h ≤ length S → member (get_or S (h - 1) zero_leaf) (table_of S) ≡ true
stage_in S h a b = table_of_has zero_leaf S (h - 1) (omega arith)

pub stage_nonzero : (S : List Tree) (h : ℕ) → 1 ≤ h → h ≤ length S → 1 ≤ get_or (solved_stages S) (h - 1) 0
stage_nonzero S h a b = rw (stage_number S h a b) (number_above (get_or S (h - 1) zero_leaf) (table_of S) (stage_in S h a b))

pub stages_length : (S : List Tree) → length S ≤ steps_most → length (solved_stages S) ≡ steps_most
unfolding solved_stages
stages_length S h =
    length-append (map (λ t. number_of t (table_of S)) S) (replicate (steps_most - length S) 0)
    ∙ omega (arith, length-map S (λ t. number_of t (table_of S)), length-replicate {A = ℕ} (steps_most - length S) 0)

pub greatest_most : (H : ℕ) (stages : List ℕ) (n : ℕ) → ((i : ℕ) → i < H → get_or stages i 0 ≤ n) → greatest_root H stages ≤ n
unfolding greatest_root
greatest_most zero stages n f = omega arith
greatest_most (suc H) stages n f = max-le (greatest_most H stages n (λ i h. f i (omega arith))) (f H (omega arith))

pub greatest_least : (H : ℕ) (stages : List ℕ) (i : ℕ) → i < H → get_or stages i 0 ≤ greatest_root H stages
unfolding greatest_root
greatest_least zero stages i h = absurd (omega arith)
greatest_least (suc H) stages i h = ⊎_elim
    (λ e. rw e (le-max_right (greatest_root H stages) (get_or stages H 0)))
    (λ l. omega (arith, greatest_least H stages i l, le-max_left (greatest_root H stages) (get_or stages H 0)))
    (let l : i ≤ H = omega arith in eq-or-lt_of_le l)

-- the greatest root is the number of nodes
pub root_last : (S : List Tree) → greatest_root (length S) (solved_stages S) ≡ length (table_of S)
unfolding table_of solved_stages
root_last S = le_antisymm
    (greatest_most (length S) (solved_stages S) (length (table_of S)) (λ i h. rw (word i h) (number_below (get_or S i zero_leaf) (table_of S))))
    (⊎_elim (λ e. rw e (omega arith)) (λ r. rw (← r.1.1, ← word r.0 r.1.0) (greatest_least (length S) (solved_stages S) r.0 r.1.0)) (last_entered zero_leaf S []))
  where
    word : (i : ℕ) → i < length S → get_or (solved_stages S) i 0 ≡ number_of (get_or S i zero_leaf) (table_of S)
    word i h = stage_word (λ t. number_of t (table_of S)) zero_leaf S (replicate (steps_most - length S) 0) i h

-- ---- reading a solved model

all_at : (p : Tree → Bool) (d : Tree) (S : List Tree) (i : ℕ) → i < length S → T (all p S) → T (p (get_or S i d))
unfolding all
all_at p d [] i h g = absurd (omega arith)
all_at p d (t ∷ S) zero h g = (both (p t) (all p S) g).0
all_at p d (t ∷ S) (suc i) h g = all_at p d S i (omega arith) (both (p t) (all p S) g).1

-- the words that solving leaves, read at a stage
pub stage_read : (m n : ℕ) (q : Asked) (ok : T (accepted m n q)) (A size : ℕ) (S : List Tree) (t : Tree) → member t (table_of S) ≡ true → StageGood n A t
    → value_at q (solved_nodes size S) (walk n A q (solved_nodes size S) (number_of t (table_of S)) (number_of t (table_of S)))
    ≡ answered (worth_at (asked_env m n q ok) t) (act_of (at (asked_env m n q ok) t))
unfolding solved_nodes
stage_read m n q ok A size S t i g =
    value_read m n q ok (table_of S) (replicate (size - length (rows (table_of S) (table_of S))) (pos 0)) (table_of_table S) A t i g

-- what value_of comes to, from the refusals before the walk
abbrev value_of_by : List ℕ → List ℤ → Asked → Verdict → Bool → Bool → Bool → ℕ → ValueOut
value_of_by B nodes q v early? accepted? none? root = if early?
    (if accepted?
    (if none? (refused_value 15 0) (value_at q nodes (walk (site_at B).conditions (site_at B).actions q nodes root root)))
    (refused_value 13 0))
    (refused_value v.number v.place)

-- the value read from the tables of stages S is the one that stage h comes to
pub reading_exact : (B : List ℕ) (size h : ℕ) (S : List Tree) (q : Asked) (ok : T (accepted (site_at B).levels (site_at B).conditions q))
    → (early B h steps_most).number ≡ 0 → length S ≤ steps_most → 1 ≤ h → h ≤ length S
    → T (all (all_nodes (good_test (site_at B).conditions false) (stage_leaf (site_at B).actions)) S)
    → value_of B (solved_nodes size S) (solved_stages S) h q
    ≡ answered (worth_at (env (state_of (site_at B).levels (site_at B).conditions q ok) []) (get_or S (h - 1) zero_leaf))
    (act_of (at (env (state_of (site_at B).levels (site_at B).conditions q ok) []) (get_or S (h - 1) zero_leaf)))
unfolding value_of
reading_exact B size h S q ok e w a b g =
    let v = early B h (length (solved_stages S)) in
    let root = get_or (solved_stages S) (h - 1) 0 in
    let is0 = eq-eqb v.number 0 (ap (λ (k : ℕ). (early B h k).number) (stages_length S w) ∙ e) in
    let acc = is_true (accepted (site_at B).levels (site_at B).conditions q) ok in
    let above = stage_nonzero S h a b in
    let non0 = ne_eqb root 0 (λ z. omega arith) in
    (λ i. value_of_by B (solved_nodes size S) q v (is0 i) (acc i) (non0 i) (stage_number S h a b i))
    ∙ stage_read (site_at B).levels (site_at B).conditions q ok (site_at B).actions size S (get_or S (h - 1) zero_leaf) (stage_in S h a b)
    (all_at (all_nodes (good_test (site_at B).conditions false) (stage_leaf (site_at B).actions)) zero_leaf S (h - 1) (omega arith) g)
