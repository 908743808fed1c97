-- "Down a path the order rises strictly .. A node whose branches are equal is that branch."; a low branch that begins with a parallel test is replaced by its own low side.
use Rattle.std.specs.Prelude.{◌≡◌, Bool, true, false, List, [], ◌∷◌, T}
use Prim.Native.Nat.{ℕ, Ordering}
use Rattle.whole.specs.Cases.{if}
use Rattle.theory.specs.Diagram.{Test, Tree, leaf, branch, cmp}
use Rattle.theory.specs.Computation.{Comp, ret, both}
use Rattle.theory.specs.Rules.{parallel, node, is_later}
use Rattle.theory.specs.Meaning.{Action, Model}
use Rattle.theory.specs.Valid.{all_nodes}

-- the first of two
abbrev pub is_lt : Ordering → Bool
is_lt Ordering.lt = true
is_lt Ordering.eq = false
is_lt Ordering.gt = false

-- t comes before u
unfoldable pub before : Test → Test → Bool
before t u = is_lt (cmp t u)

-- t comes before each test of a diagram
abbrev pub Above : Test → Tree → Type 0
Above t F = T (all_nodes (before t) (λ _. true) F)

-- a diagram does not begin with a test that has t's coefficients and a larger constant
abbrev pub ApartFrom : Test → Tree → Type 0
ApartFrom t (leaf f) = Unit {0}
ApartFrom t (branch u h l) = T (parallel t u) → ⊥

-- each test comes before those under it, no node has equal branches, and no low branch is parallel to its node
abbrev pub Ordered : Tree → Type 0
Ordered (leaf f) = Unit {0}
Ordered (branch t h l) = Above t h × (Above t l × (((h ≡ l → ⊥) × ApartFrom t l) × (Ordered h × Ordered l)))

-- .. of each
abbrev pub AllOrdered : List Tree → Type 0
AllOrdered [] = Unit {0}
AllOrdered (F ∷ l) = Ordered F × AllOrdered l

-- .. of an action's diagrams, of some actions', and of a model's, its end worth too
abbrev pub ActionOrdered : Action → Type 0
ActionOrdered x = Ordered x.reward × (AllOrdered x.chances × AllOrdered x.levels)

abbrev pub ActionsOrdered : List Action → Type 0
ActionsOrdered [] = Unit {0}
ActionsOrdered (x ∷ l) = ActionOrdered x × ActionsOrdered l

abbrev pub ModelOrdered : Model → Type 0
ModelOrdered M = ActionOrdered M.first × (ActionsOrdered M.others × AllOrdered M.end)

-- "a side has each node of that next-step condition replaced by its high (yes) or low branch", as it stands
unfoldable pub replaced : Bool → ℕ → Tree → Comp Tree
replaced b k (leaf f) = ret (leaf f)
replaced b k (branch t h l) = elim (is_later k t) [
  | true ↦ ret (if b h l)
  | false ↦ both (node t) (replaced b k h) (replaced b k l)
]
