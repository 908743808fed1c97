-- Refusals 11 and 12 said a second time, by what a computation names and makes up to a moment; laws/ shows that solve's outcome is this.
use Rattle.std.specs.Prelude.{◌≡◌, Bool, true, not, ◌&&◌, List, [], ◌∷◌, ◌++◌, ℕ, ◌≤◌, ◌<◌, max, T, ℤ, length, get_or}
use Rattle.whole.specs.Cases.{if}
use Rattle.whole.specs.Within.{small}
use Rattle.theory.specs.Diagram.{Tree, leaf, branch}
use Rattle.theory.specs.Computation.{Comp, ret, named, made, result, member, enter_all, Moment, Ops, end, operation}
use Rattle.theory.specs.Rules.{zero_leaf}

-- a number is named, or a node is made
pub data Event : Type 0 where
  names : ℤ → Event
  makes : Tree → Event

-- the events of a computation, the first first
unfoldable pub events : {A : Type 0} → Comp A → List Event
events (ret a) = []
events (named z m) = names z ∷ events m
events (made t m) = makes t ∷ events m

-- every number named so far lies within its limits
unfoldable pub within : List Event → Bool
within [] = true
within (names z ∷ l) = small z && within l
within (makes t ∷ l) = within l

-- the distinct nodes of X with those made so far
unfoldable pub needed : List Tree → List Event → List Tree
needed X [] = X
needed X (names z ∷ l) = needed X l
needed X (makes t ∷ l) = needed (if (member t X) X (X ++ (t ∷ []))) l

-- "distinct": no two of them are equal
abbrev pub Distinct : List Tree → Type 0
Distinct X = (i j : ℕ) → i < length X → j < length X → get_or X i zero_leaf ≡ get_or X j zero_leaf → i ≡ j

-- the first moment at which a computation is refused, over the nodes of X with room for N
pub data Refused (N : ℕ) (X : List Tree) (l : List Event) : ℕ → Type 0 where
  -- "11: a number leaves its limits"
  beyond : (before : List Event) (z : ℤ) (rest : List Event) → l ≡ before ++ (names z ∷ rest)
      → T (within before) → length (needed X before) ≤ N → T (not (small z)) → Refused N X l 11
  -- "12: needed nodes exceed N"
  no_room : (before : List Event) (t : Tree) (rest : List Event) → l ≡ before ++ (makes t ∷ rest)
      → T (within before) → length (needed X before) ≤ N → N < length (needed X (before ++ (makes t ∷ []))) → Refused N X l 12

-- no moment refuses it
abbrev pub Passes : ℕ → List Tree → List Event → Type 0
Passes N X l = T (within l) × (length (needed X l) ≤ N)

-- an operation is refused, all before it having passed: number and place
pub data RefusedAt {A : Type 0} (N : ℕ) : Ops A → ℕ → ℕ → Type 0 where
  here : {h : Moment} {roots : List Tree} {c : Comp Tree} {f : Tree → Ops A} {r : ℕ}
      → Refused N (enter_all roots []) (events c) r → RefusedAt N (operation h roots c f) r h.stage
  later : {h : Moment} {roots : List Tree} {c : Comp Tree} {f : Tree → Ops A} {r p : ℕ}
      → Passes N (enter_all roots []) (events c) → RefusedAt N (f (result c)) r p → RefusedAt N (operation h roots c f) r p

-- every operation passes
unfoldable pub PassesAll : {A : Type 0} → ℕ → Ops A → Type 0
PassesAll N (end a) = Unit {0}
PassesAll N (operation h roots c f) = Passes N (enter_all roots []) (events c) × PassesAll N (f (result c))

-- "The peak .. is the largest such count."
unfoldable pub peak_of : {A : Type 0} → ℕ → Ops A → ℕ
peak_of p (end a) = p
peak_of p (operation h roots c f) = peak_of (max p (length (needed (enter_all roots []) (events c)))) (f (result c))

-- a diagram and all that is below it are among X
unfoldable pub inside : Tree → List Tree → Bool
inside (leaf f) X = member (leaf f) X
inside (branch t h l) X = member (branch t h l) X && (inside h X && inside l X)

-- some diagrams are
unfoldable pub all_inside : List Tree → List Tree → Bool
all_inside [] X = true
all_inside (t ∷ l) X = inside t X && all_inside l X

-- each operation begins with nodes that were there when the one before it ended, the first with those of X
unfoldable pub ChainedOps : {A : Type 0} → List Tree → Ops A → Type 0
ChainedOps X (end a) = Unit {0}
ChainedOps X (operation h roots c f) = T (all_inside roots X) × ChainedOps (needed (enter_all roots []) (events c)) (f (result c))
