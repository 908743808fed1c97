-- Computations: what a rule comes to, with the numbers that it names and the nodes that it makes, in order.
use Rattle.std.specs.Prelude.{Bool, true, false, List, [], ◌∷◌, ◌++◌, ℕ, max, ltb, ℤ, length}
use Rattle.whole.specs.Cases.{if}
use Rattle.whole.specs.Within.{small}
use Rattle.theory.specs.Diagram.{Linear, Tree, leaf, branch, same}

-- a rule's result, after the numbers that it names and the nodes that it makes, the first first
pub data Comp (A : Type 0) : Type 0 where
  ret : A → Comp A
  named : ℤ → Comp A → Comp A
  made : Tree → Comp A → Comp A

-- one computation, then what follows from its result
unfoldable pub bind : {A B : Type 0} → Comp A → (A → Comp B) → Comp B
bind (ret a) k = k a
bind (named z m) k = named z (bind m k)
bind (made t m) k = made t (bind m k)

-- what it comes to, the events forgotten
unfoldable pub result : {A : Type 0} → Comp A → A
result (ret a) = a
result (named z m) = result m
result (made t m) = result m

-- a node is made
unfoldable pub make : Tree → Comp Tree
make t = made t (ret t)

-- some numbers are named, then m
unfoldable pub names : {A : Type 0} → List ℤ → Comp A → Comp A
names [] m = m
names (z ∷ l) m = named z (names l m)

-- all the numbers of a linear are named, the constant last, then m
unfoldable pub judge : {A : Type 0} → Linear → Comp A → Comp A
judge p m = names p.coeffs (named p.const m)

-- "high before low": high, then low, then what is made of the two
unfoldable pub both : (Tree → Tree → Comp Tree) → Comp Tree → Comp Tree → Comp Tree
both mk m₁ m₂ = bind m₁ (λ h. bind m₂ (λ l. mk h l))

-- ---- the run over the nodes that are there, with room for N

-- a result with the nodes that are there then, or a refusal's number
pub data Out (A : Type 0) : Type 0 where
  done : A → List Tree → Out A
  stopped : ℕ → Out A

-- a node is among some: "Equal nodes are one node."
unfoldable pub member : Tree → List Tree → Bool
member t [] = false
member t (x ∷ X) = if (same x t) true (member t X)

-- "11: a number leaves its limits; 12: needed nodes exceed N": the first met; "distinct": a node that is there is not counted again
unfoldable pub run : {A : Type 0} → ℕ → Comp A → List Tree → Out A
run N (ret a) X = done a X
run N (named z m) X = if (small z) (run N m X) (stopped 11)
run N (made t m) X = if (member t X) (run N m X) (if (ltb (length X) N) (run N m (X ++ (t ∷ []))) (stopped 12))

-- the distinct nodes of a diagram behind those of a list: "high before low, a node after its branches"
unfoldable pub enter : Tree → List Tree → List Tree
enter (leaf f) X = if (member (leaf f) X) X (X ++ (leaf f ∷ []))
enter (branch t h l) X = if (member (branch t h l) X) X (enter l (enter h X) ++ (branch t h l ∷ []))

-- the nodes of some diagrams, one diagram after another
unfoldable pub enter_all : List Tree → List Tree → List Tree
enter_all [] X = X
enter_all (t ∷ ts) X = enter_all ts (enter t X)

-- ---- operations: each with its place and the diagrams that are needed as it begins

-- an operation's stage, which is its place, and the action that it is of: "a peak for loading and one per action"
pub record Moment : Type 0 where
  pub stage : ℕ
  pub action : ℕ

-- operations one after another, each on what the one before it came to
pub data Ops (A : Type 0) : Type 0 where
  end : A → Ops A
  operation : Moment → List Tree → Comp Tree → (Tree → Ops A) → Ops A

-- some operations, then those that follow from what they come to
unfoldable pub and_then : {A B : Type 0} → Ops A → (A → Ops B) → Ops B
and_then (end a) k = k a
and_then (operation h roots c f) k = operation h roots c (λ t. and_then (f t) k)

-- what operations come to, the events forgotten
unfoldable pub final : {A : Type 0} → Ops A → A
final (end a) = a
final (operation h roots c f) = final (f (result c))

-- a result with the peak, or a refusal's number and place
pub data Solved (A : Type 0) : Type 0 where
  solved : A → ℕ → Solved A
  refused : ℕ → ℕ → Solved A

-- "Needed are the distinct nodes of the model, finished stages, best so far and last result, with those that the operation's rules make. The peak .. is the largest such count."
unfoldable pub run_all : {A : Type 0} → ℕ → ℕ → Ops A → Solved A
run_all N peak (end a) = solved a peak
run_all N peak (operation h roots c f) = elim (run N c (enter_all roots [])) [
  | done t X ↦ run_all N (max peak (length X)) (f t)
  | stopped r ↦ refused r h.stage
]
