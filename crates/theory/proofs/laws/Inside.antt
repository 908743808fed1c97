-- Nodes that are there: what each rule comes to stands, with all below it, among the nodes of its operands and those that it makes.
use Rattle.std.specs.Prelude.{◌≡◌, ◌⊎◌, Bool, true, false, ◌&&◌, List, [], ◌∷◌, ◌++◌, ℕ, T, ℤ, pos}
use Rattle.std.proofs.Common.{subst, inl, inr, ⊎_elim}
use Prim.Native.Nat.{Ordering}
use Rattle.std.proofs.Math.Dec.{compare_is_eq}
use Rattle.std.specs.Int.Signed.{le_z}
use Rattle.whole.specs.Cases.{if, by_test, by_order, both, and_in, is_true, from_true}
use Rattle.theory.specs.Diagram.{Linear, Test, now, later, linear, Leaf, some, forbidden, lin_of, Tree, leaf, branch, plain, cmp, cmp_ℤ, same, ◌⊟◌, zeros, test_of}
use Rattle.theory.specs.Computation.{Comp, ret, named, bind, result, make, names, judge, member, enter, enter_all}
use Rattle.theory.specs.Computation as C
use Rattle.theory.specs.Rules.{parallel, narrowed, node, step, choose, over, merge, make_leaf, leaf_sum, leaf_product, leaf_scale, leaf_shift}
use Rattle.theory.specs.Rules.{leaf_complement, leaf_number, decide, leaf_best, none_leaf, sum, product, scale, shift, complement, number, best}
use Rattle.theory.specs.Rules.{zero_leaf, sum_on, levels_sum, linear_diagram, substitute, is_later, side, expectation, add_reward}
use Rattle.theory.specs.Events.{Event, makes, events, needed, inside, all_inside}
use Rattle.theory.specs.Events as E
use Rattle.theory.proofs.laws.Comps.{result_bind, member_more, member_cases, member_last, with_made, with_made_more, with_made_in}
use Rattle.theory.proofs.laws.Events.{events_bind, needed_append}

-- ---- lists of nodes

-- every node of X is one of Y
pub record Sub (X Y : List Tree) : Type 0 where
  pub take : (u : Tree) → T (member u X) → T (member u Y)

pub sub_refl : {X : List Tree} → Sub X X
sub_refl = record { take = λ u m. m }

pub sub_trans : {X Y Z : List Tree} → Sub X Y → Sub Y Z → Sub X Z
sub_trans a b = record { take = λ u m. b.take u (a.take u m) }

pub sub_snoc : (X : List Tree) (t : Tree) → Sub X (X ++ (t ∷ []))
sub_snoc X t = record { take = λ u m. from_true (member_more u t X (is_true _ m)) }

pub last_in : (X : List Tree) (t : Tree) → T (member t (X ++ (t ∷ [])))
last_in X t = from_true (member_last t X)

pub snoc_cases : (X : List Tree) (t u : Tree) → T (member u (X ++ (t ∷ []))) → T (member u X) ⊎ (t ≡ u)
snoc_cases X t u m = ⊎_elim (λ a. inl (from_true a)) inr (member_cases u t X (is_true _ m))

sub_made : (t : Tree) (X : List Tree) → Sub X (with_made t X)
sub_made t X = record { take = λ u m. from_true (with_made_more t u X (is_true _ m)) }

pub sub_needed : (X : List Tree) (l : List Event) → Sub X (needed X l)
unfolding needed with_made
sub_needed X [] = sub_refl
sub_needed X (E.names z ∷ l) = sub_needed X l
sub_needed X (makes t ∷ l) = sub_trans (sub_made t X) (sub_needed (with_made t X) l)

-- ---- inside

pub inside_parts : (t : Test) (h l : Tree) (X : List Tree) → T (inside (branch t h l) X) → T (member (branch t h l) X) × (T (inside h X) × T (inside l X))
unfolding inside
inside_parts t h l X i = let d = both (member (branch t h l) X) (inside h X && inside l X) i in (d.0, both (inside h X) (inside l X) d.1)

pub inside_branch : (t : Test) (h l : Tree) (X : List Tree) → T (member (branch t h l) X) → T (inside h X) → T (inside l X) → T (inside (branch t h l) X)
unfolding inside
inside_branch t h l X a b c = and_in (member (branch t h l) X) (inside h X && inside l X) a (and_in (inside h X) (inside l X) b c)

-- a diagram is the first of what it holds
pub inside_root : (t : Tree) (X : List Tree) → T (inside t X) → T (member t X)
unfolding inside
inside_root (leaf f) X i = i
inside_root (branch t h l) X i = (inside_parts t h l X i).0

pub inside_more : {X Y : List Tree} → Sub X Y → (t : Tree) → T (inside t X) → T (inside t Y)
unfolding inside
inside_more s (leaf f) i = s.take (leaf f) i
inside_more {X} {Y} s (branch t h l) i =
    let d = inside_parts t h l X i in
    inside_branch t h l Y (s.take (branch t h l) d.0) (inside_more s h d.1.0) (inside_more s l d.1.1)

pub inside_needed : (X : List Tree) (l : List Event) (t : Tree) → T (inside t X) → T (inside t (needed X l))
inside_needed X l = inside_more (sub_needed X l)

pub all_none : (X : List Tree) → T (all_inside [] X)
unfolding all_inside
all_none X = tt

pub all_parts : (t : Tree) (l X : List Tree) → T (all_inside (t ∷ l) X) → T (inside t X) × T (all_inside l X)
unfolding all_inside
all_parts t l X a = both (inside t X) (all_inside l X) a

pub all_cons : (t : Tree) (l X : List Tree) → T (inside t X) → T (all_inside l X) → T (all_inside (t ∷ l) X)
unfolding all_inside
all_cons t l X a b = and_in (inside t X) (all_inside l X) a b

pub all_more : {X Y : List Tree} → Sub X Y → (l : List Tree) → T (all_inside l X) → T (all_inside l Y)
unfolding all_inside
all_more s [] a = tt
all_more {X} {Y} s (t ∷ l) a = let d = all_parts t l X a in all_cons t l Y (inside_more s t d.0) (all_more s l d.1)

pub all_left : (l k X : List Tree) → T (all_inside (l ++ k) X) → T (all_inside l X)
unfolding all_inside
all_left [] k X a = tt
all_left (t ∷ l) k X a = let d = all_parts t (l ++ k) X a in all_cons t l X d.0 (all_left l k X d.1)

pub all_right : (l k X : List Tree) → T (all_inside (l ++ k) X) → T (all_inside k X)
all_right [] k X a = a
all_right (t ∷ l) k X a = all_right l k X (all_parts t (l ++ k) X a).1

-- ---- what is entered is there

-- with each node there is all that is below it
abbrev pub Closed : List Tree → Type 0
Closed X = (u : Tree) → T (member u X) → T (inside u X)

snoc_closed : (X : List Tree) (t : Tree) → Closed X → T (inside t (X ++ (t ∷ []))) → Closed (X ++ (t ∷ []))
snoc_closed X t c i u m = elim (snoc_cases X t u m) [
  | inl a ↦ inside_more (sub_snoc X t) u (c u a)
  | inr e ↦ subst (λ u. T (inside u (X ++ (t ∷ [])))) e i
]

-- a diagram that is entered: the nodes before are still there, it is there, and so is all that is below any
pub record TreeEntered (t : Tree) (X Y : List Tree) : Type 0 where
  pub more : Sub X Y
  pub there : T (inside t Y)
  pub closed : Closed Y

was_there : (t : Tree) (X : List Tree) → Closed X → T (member t X) → TreeEntered t X X
was_there t X c m = record { more = sub_refl; there = c t m; closed = c }

comes_last : (t : Tree) (X Y : List Tree) → Sub X Y → Closed Y → T (inside t (Y ++ (t ∷ []))) → TreeEntered t X (Y ++ (t ∷ []))
comes_last t X Y s c i = record { more = sub_trans s (sub_snoc Y t); there = i; closed = snoc_closed Y t c i }

pub entered : (t : Tree) (X : List Tree) → Closed X → TreeEntered t X (enter t X)
unfolding enter inside
entered (leaf f) X c = by_test (member (leaf f) X) (λ b. TreeEntered (leaf f) X (if b X (X ++ (leaf f ∷ [])))) (was_there (leaf f) X c) (λ _. comes_last (leaf f) X X sub_refl c (last_in X (leaf f)))
entered (branch t h l) X c =
    let a = entered h X c in
    let b = entered l (enter h X) a.closed in
    let Y = enter l (enter h X) in
    let s = sub_snoc Y (branch t h l) in
    by_test (member (branch t h l) X) (λ b. TreeEntered (branch t h l) X (if b X (Y ++ (branch t h l ∷ [])))) (was_there (branch t h l) X c)
    (λ _. comes_last (branch t h l) X Y (sub_trans a.more b.more) b.closed
    (inside_branch t h l _ (last_in Y (branch t h l)) (inside_more (sub_trans b.more s) h a.there) (inside_more s l b.there)))

entered_all : (l X : List Tree) → Closed X → Sub X (enter_all l X) × (T (all_inside l (enter_all l X)) × Closed (enter_all l X))
unfolding enter_all all_inside
entered_all [] X c = (sub_refl, (tt, c))
entered_all (t ∷ l) X c =
    let a = entered t X c in
    let b = entered_all l (enter t X) a.closed in
    (sub_trans a.more b.0, (all_cons t l _ (inside_more b.0 t a.there) b.1.0, b.1.1))

none_closed : Closed []
unfolding member
none_closed u m = absurd m

pub roots_inside : (roots : List Tree) → T (all_inside roots (enter_all roots []))
roots_inside roots = (entered_all roots [] none_closed).1.0

snoc_sub : (X Y : List Tree) (t : Tree) → Sub X Y → T (member t Y) → Sub (X ++ (t ∷ [])) Y
snoc_sub X Y t s i = record { take = λ u m. elim (snoc_cases X t u m) [ inl a ↦ s.take u a | inr e ↦ subst (λ u. T (member u Y)) e i ] }

-- no node is entered that was not there
pub enter_sub : (t : Tree) {X Y : List Tree} → Sub X Y → T (inside t Y) → Sub (enter t X) Y
unfolding enter inside
enter_sub (leaf f) {X} {Y} s i =
    by_test (member (leaf f) X) (λ b. Sub (if b X (X ++ (leaf f ∷ []))) Y) (λ _. s) (λ _. snoc_sub X Y (leaf f) s i)
enter_sub (branch t h l) {X} {Y} s i =
    let d = inside_parts t h l Y i in
    by_test (member (branch t h l) X) (λ b. Sub (if b X (enter l (enter h X) ++ (branch t h l ∷ []))) Y) (λ _. s)
    (λ _. snoc_sub (enter l (enter h X)) Y (branch t h l) (enter_sub l (enter_sub h s d.1.0) d.1.1) d.0)

pub enter_all_sub : (l : List Tree) {X Y : List Tree} → Sub X Y → T (all_inside l Y) → Sub (enter_all l X) Y
unfolding enter_all
enter_all_sub [] s a = s
enter_all_sub (t ∷ l) {X} {Y} s a = let d = all_parts t l Y a in enter_all_sub l (enter_sub t s d.0) d.1

pub roots_sub : (roots Y : List Tree) → T (all_inside roots Y) → Sub (enter_all roots []) Y
unfolding member
roots_sub roots Y a = enter_all_sub roots (record { take = λ u m. absurd m }) a

-- ---- what a computation comes to is there when it ends

abbrev pub Builds : List Tree → Comp Tree → Type 0
Builds X m = T (inside (result m) (needed X (events m)))

-- and so wherever the nodes of X are
pub record Built (X : List Tree) (m : Comp Tree) : Type 0 where
  pub from : (Y : List Tree) → Sub X Y → Builds Y m

pub builds : {X : List Tree} {m : Comp Tree} → Built X m → Builds X m
builds {X} b = b.from X sub_refl

pub built_more : {X Y : List Tree} {m : Comp Tree} → Sub X Y → Built X m → Built Y m
built_more s b = record { from = λ Z r. b.from Z (sub_trans s r) }

-- what holds of a result and the nodes at its end, one computation after another
pub bind_gives : {A B : Type 0} (Q : B → List Tree → Type 0) (X : List Tree) (m : Comp A) (k : A → Comp B)
    → Q (result (k (result m))) (needed (needed X (events m)) (events (k (result m)))) → Q (result (bind m k)) (needed X (events (bind m k)))
bind_gives Q X m k b = rw (result_bind m k, events_bind m k, needed_append X (events m) (events (k (result m)))) b

pub bind_builds : {A : Type 0} (X : List Tree) (m : Comp A) (k : A → Comp Tree) → Builds (needed X (events m)) (k (result m)) → Builds X (bind m k)
bind_builds X m k b = bind_gives (λ t Y. T (inside t Y)) X m k b

pub bind_built : {X : List Tree} {m : Comp Tree} (k : Tree → Comp Tree) → Built X m → ((Y : List Tree) → Sub X Y → T (inside (result m) Y) → Built Y (k (result m))) → Built X (bind m k)
bind_built {X} {m} k a b = record { from = λ Y s. bind_builds Y m k (builds (b (needed Y (events m)) (sub_trans s (sub_needed Y (events m))) (a.from Y s))) }

-- a maker of nodes: what it makes of diagrams that are there
abbrev pub KeepsInside : (Tree → Tree → Comp Tree) → Type 0
KeepsInside mk = (X : List Tree) (h l : Tree) → T (inside h X) → T (inside l X) → Built X (mk h l)

-- a function of diagrams, wherever the nodes of X are
abbrev pub Sends : List Tree → (Tree → Comp Tree) → Type 0
Sends X f = (Y : List Tree) → Sub X Y → (G : Tree) → T (inside G Y) → Built Y (f G)

pub both_built : {X : List Tree} {m₁ m₂ : Comp Tree} (mk : Tree → Tree → Comp Tree) → KeepsInside mk → Built X m₁ → Built X m₂ → Built X (C.both mk m₁ m₂)
unfolding C.both
both_built {X} {m₁} {m₂} mk k a b = bind_built (λ h. bind m₂ (λ l. mk h l)) a
    (λ Y s h. bind_built (mk (result m₁)) (built_more s b) (λ Z r l. k Z (result m₁) (result m₂) (inside_more r (result m₁) h) l))

pub ret_built : (X : List Tree) (t : Tree) → T (inside t X) → Built X (ret t)
unfolding result events needed
ret_built X t i = record { from = λ Y s. inside_more s t i }

pub leaf_built : (X : List Tree) (f : Leaf) → Built X (make (leaf f))
unfolding make result events needed inside with_made
leaf_built X f = record { from = λ Y s. from_true (with_made_in (leaf f) Y) }

pub branch_built : (X : List Tree) (t : Test) (h l : Tree) → T (inside h X) → T (inside l X) → Built X (make (branch t h l))
unfolding make result events needed with_made
branch_built X t h l a b = record {
  from = λ Y s. inside_branch t h l _ (from_true (with_made_in (branch t h l) Y))
      (inside_more (sub_trans s (sub_made (branch t h l) Y)) h a) (inside_more (sub_trans s (sub_made (branch t h l) Y)) l b);
}

pub named_built : {X : List Tree} {m : Comp Tree} (z : ℤ) → Built X m → Built X (named z m)
unfolding result events needed
named_built z b = record { from = λ Y s. b.from Y s }

names_built : {X : List Tree} {m : Comp Tree} (l : List ℤ) → Built X m → Built X (names l m)
unfolding names
names_built [] b = b
names_built (z ∷ l) b = named_built z (names_built l b)

pub judge_built : {X : List Tree} {m : Comp Tree} (p : Linear) → Built X m → Built X (judge p m)
unfolding judge
judge_built p b = names_built p.coeffs (named_built p.const b)

-- ---- by the first root

-- what a low branch is replaced by stands below it
pub narrowed_inside : (t : Test) (l : Tree) (X : List Tree) → T (inside l X) → T (inside (narrowed t l) X)
unfolding narrowed
narrowed_inside t (leaf f) X i = i
narrowed_inside t (branch u h l) X i = by_test (parallel t u) (λ b. T (inside (if b (narrowed t l) (branch u h l)) X)) (λ _. narrowed_inside t l X (inside_parts u h l X i).1.1) (λ _. i)

pub node_built : (t : Test) → KeepsInside (node t)
unfolding node
node_built t X h l a b =
    let k = narrowed t l in
    by_test (same h k) (λ s. Built X (elim s [ true ↦ ret h | false ↦ make (branch t h k) ])) (λ _. ret_built X h a) (λ _. branch_built X t h k a (narrowed_inside t l X b))

module _ (mk : Test → Tree → Tree → Comp Tree) (keeps : (t : Test) → KeepsInside (mk t)) where
  module _ (t : Test) (f g : Tree → Comp Tree) (X : List Tree) (fs : Sends X f) (gs : Sends X g) where
    pub step_built : Sends X (step mk t f g)
    unfolding step
    step_built Y s (leaf x) i = both_built (mk t) (keeps t) (fs Y s (leaf x) i) (gs Y s (leaf x) i)
    step_built Y s (branch u h l) i =
        let d = inside_parts u h l Y i in
        by_order (cmp t u)
        (λ o. Built Y (elim o [
          | Ordering.lt ↦ C.both (mk t) (f (branch u h l)) (g (branch u h l))
          | Ordering.eq ↦ C.both (mk t) (f h) (g l)
          | Ordering.gt ↦ C.both (mk u) (step mk t f g h) (step mk t f g l)
        ]))
        (both_built (mk t) (keeps t) (fs Y s (branch u h l) i) (gs Y s (branch u h l) i))
        (λ _. both_built (mk t) (keeps t) (fs Y s h d.1.0) (gs Y s l d.1.1))
        (both_built (mk u) (keeps u) (step_built Y s h d.1.0) (step_built Y s l d.1.1))

  pub over_built : (op : Leaf → Comp Tree) (X : List Tree) → ((Y : List Tree) → Sub X Y → (g : Leaf) → T (inside (leaf g) Y) → Built Y (op g)) → Sends X (over mk op)
  unfolding over
  over_built op X o Y s (leaf g) i = o Y s g i
  over_built op X o Y s (branch u h l) i =
      let d = inside_parts u h l Y i in
      both_built (mk u) (keeps u) (over_built op X o Y s h d.1.0) (over_built op X o Y s l d.1.1)

  module _ (op : Leaf → Leaf → Comp Tree) (o : (X : List Tree) (f g : Leaf) → T (inside (leaf f) X) → T (inside (leaf g) X) → Built X (op f g)) where
    pub merge_built : KeepsInside (merge mk op)
    unfolding merge
    merge_built X (leaf f) G a b = over_built (op f) X (λ Y s g i. o Y f g (inside_more s (leaf f) a) i) X sub_refl G b
    merge_built X (branch u h l) G a b =
        let d = inside_parts u h l X a in
        step_built u (merge mk op h) (merge mk op l) X (λ Y s F i. merge_built Y h F (inside_more s h d.1.0) i) (λ Y s F i. merge_built Y l F (inside_more s l d.1.1) i) X sub_refl G b

-- t over a whole diagram on the high side
place_built : (t : Test) (X : List Tree) (H G : Tree) → T (inside H X) → T (inside G X) → Built X (step node t (λ _. ret H) ret G)
place_built t X H G a b = step_built node node_built t (λ _. ret H) ret X (λ Y s _ _. ret_built Y H (inside_more s H a)) (λ Y s F i. ret_built Y F i) X sub_refl G b

pub choose_built : (t : Test) → KeepsInside (choose t)
unfolding choose
choose_built t X (leaf x) G a b = place_built t X (leaf x) G a b
choose_built t X (branch u h l) G a b =
    let d = inside_parts u h l X a in
    by_order (cmp t u)
    (λ o. Built X (elim o [
      | Ordering.lt ↦ step node t (λ _. ret (branch u h l)) ret G
      | Ordering.eq ↦ step node t (λ _. ret h) ret G
      | Ordering.gt ↦ step node u (choose t h) (choose t l) G
    ]))
    (place_built t X (branch u h l) G a b)
    (λ _. place_built t X h G d.1.0 b)
    (step_built node node_built u (choose t h) (choose t l) X
    (λ Y s F i. choose_built t Y h F (inside_more s h d.1.0) i) (λ Y s F i. choose_built t Y l F (inside_more s l d.1.1) i) X sub_refl G b)

-- ---- the rules

new_leaf : (X : List Tree) (p : Linear) → Built X (make_leaf p)
unfolding make_leaf
new_leaf X p = judge_built p (leaf_built X (plain p))

pub zero_built : (X : List Tree) → Built X (make zero_leaf)
unfolding zero_leaf
zero_built X = leaf_built X _

pub none_built : (X : List Tree) → Built X (make none_leaf)
none_built X = leaf_built X forbidden

leaf_sum_built : (X : List Tree) (f g : Leaf) → Built X (leaf_sum f g)
unfolding leaf_sum
leaf_sum_built X forbidden g = none_built X
leaf_sum_built X (some p a) forbidden = none_built X
leaf_sum_built X (some p a) (some q b) = new_leaf X _

leaf_scale_built : (c : ℤ) (X : List Tree) (g : Leaf) → Built X (leaf_scale c g)
unfolding leaf_scale
leaf_scale_built c X (some q b) = new_leaf X _
leaf_scale_built c X forbidden = by_test (compare_is_eq (cmp_ℤ c (pos 0))) (λ z. Built X (make (if z zero_leaf none_leaf))) (λ _. zero_built X) (λ _. none_built X)

pub sum_built : KeepsInside sum
unfolding sum
sum_built = merge_built node node_built leaf_sum (λ X f g _ _. leaf_sum_built X f g)

pub product_built : KeepsInside product
unfolding product leaf_product
product_built = merge_built node node_built leaf_product (λ X f g _ _. leaf_scale_built _ X g)

-- a leaf operation that makes a leaf, on each leaf in turn
leaves_built : (op : Leaf → Comp Tree) → ((Y : List Tree) (g : Leaf) → Built Y (op g)) → (X : List Tree) (G : Tree) → T (inside G X) → Built X (over node op G)
leaves_built op o X G i = over_built node node_built op X (λ Y _ g _. o Y g) X sub_refl G i

pub scale_built : (c : ℤ) (X : List Tree) (G : Tree) → T (inside G X) → Built X (scale c G)
unfolding scale
scale_built c = leaves_built (leaf_scale c) (leaf_scale_built c)

pub shift_built : (c : ℤ) (X : List Tree) (G : Tree) → T (inside G X) → Built X (shift c G)
unfolding shift leaf_shift
shift_built c = leaves_built (leaf_shift c) (λ Y g. new_leaf Y _)

pub complement_built : (W : ℕ) (X : List Tree) (G : Tree) → T (inside G X) → Built X (complement W G)
unfolding complement leaf_complement
complement_built W = leaves_built (leaf_complement W) (λ Y g. new_leaf Y _)

leaf_number_built : (a : ℕ) (X : List Tree) (g : Leaf) → Built X (leaf_number a g)
unfolding leaf_number
leaf_number_built a X (some p b) = leaf_built X _
leaf_number_built a X forbidden = none_built X

pub number_built : (a : ℕ) (X : List Tree) (G : Tree) → T (inside G X) → Built X (number a G)
unfolding number
number_built a = leaves_built (leaf_number a) (leaf_number_built a)

pub decide_built : (p : Linear) → KeepsInside (decide p)
unfolding decide
decide_built p X H L a b = by_test (zeros p.coeffs)
    (λ z. Built X (elim z [ true ↦ elim (le_z p.const (pos 0)) [ true ↦ ret H | false ↦ ret L ] | false ↦ choose (test_of p) H L ]))
    (λ _. by_test (le_z p.const (pos 0)) (λ z. Built X (elim z [ true ↦ ret H | false ↦ ret L ])) (λ _. ret_built X H a) (λ _. ret_built X L b))
    (λ _. choose_built (test_of p) X H L a b)

leaf_best_built : (X : List Tree) (f g : Leaf) → T (inside (leaf f) X) → T (inside (leaf g) X) → Built X (leaf_best f g)
unfolding leaf_best
leaf_best_built X forbidden g a b = ret_built X (leaf g) b
leaf_best_built X (some p k) forbidden a b = ret_built X (leaf (some p k)) a
leaf_best_built X (some p k) (some q j) a b = judge_built (q ⊟ p) (decide_built (q ⊟ p) X (leaf (some p k)) (leaf (some q j)) a b)

pub best_built : KeepsInside best
unfolding best
best_built = merge_built choose choose_built leaf_best leaf_best_built

-- ---- substitute

sum_on_built : (X : List Tree) (F : Tree) (cs : List ℤ) (Ds : List Tree) → T (inside F X) → T (all_inside Ds X) → Built X (sum_on F cs Ds)
unfolding sum_on
sum_on_built X F [] Ds a b = ret_built X F a
sum_on_built X F (c ∷ cs) [] a b = ret_built X F a
sum_on_built X F (c ∷ cs) (D ∷ Ds) a b =
    let d = all_parts D Ds X b in
    bind_built _ (scale_built c X D d.0)
    (λ Y s g. bind_built _ (sum_built Y F _ (inside_more s F a) g)
    (λ Z r i. sum_on_built Z _ cs Ds i (all_more (sub_trans s r) Ds d.1)))

pub levels_built : (X : List Tree) (cs : List ℤ) (Ds : List Tree) → T (all_inside Ds X) → Built X (levels_sum cs Ds)
unfolding levels_sum
levels_built X [] Ds b = zero_built X
levels_built X (c ∷ cs) [] b = zero_built X
levels_built X (c ∷ cs) (D ∷ Ds) b =
    let d = all_parts D Ds X b in
    bind_built _ (scale_built c X D d.0) (λ Y s i. sum_on_built Y _ cs Ds i (all_more s Ds d.1))

pub linear_built : (X : List Tree) (Ds : List Tree) (p : Linear) → T (all_inside Ds X) → Built X (linear_diagram Ds p)
unfolding linear_diagram
linear_built X Ds p b = bind_built (shift p.const) (levels_built X p.coeffs Ds b) (λ Y s i. shift_built p.const Y _ i)

-- the diagram that is substituted in is taken apart, and need not be there
pub substitute_built : (X : List Tree) (Ds : List Tree) (F : Tree) → T (all_inside Ds X) → Built X (substitute Ds F)
unfolding substitute
substitute_built X Ds (leaf (some p a)) b = linear_built X Ds p b
substitute_built X Ds (leaf forbidden) b = none_built X
substitute_built X Ds (branch (now k) h l) b = both_built (choose (later k)) (choose_built (later k)) (substitute_built X Ds h b) (substitute_built X Ds l b)
substitute_built X Ds (branch (later k) h l) b = both_built (choose (later k)) (choose_built (later k)) (substitute_built X Ds h b) (substitute_built X Ds l b)
substitute_built X Ds (branch (linear p) h l) b =
    bind_built _ (linear_built X Ds p b)
    (λ Y₁ s₁ i. bind_built _ (built_more s₁ (substitute_built X Ds h b))
    (λ Y₂ s₂ j. bind_built _ (built_more (sub_trans s₁ s₂) (substitute_built X Ds l b))
    (λ Y₃ s₃ k. over_built choose choose_built (λ f. decide (lin_of f) (result (substitute Ds h)) (result (substitute Ds l))) Y₃
    (λ Z r f _. decide_built (lin_of f) Z _ _ (inside_more (sub_trans s₃ r) _ j) (inside_more r _ k))
    Y₃ sub_refl _ (inside_more (sub_trans s₂ s₃) _ i))))

-- ---- conditions summed out

pub side_built : (b : Bool) (k : ℕ) (X : List Tree) (F : Tree) → T (inside F X) → Built X (side b k F)
unfolding side
side_built b k X (leaf f) i = ret_built X (leaf f) i
side_built b k X (branch t h l) i =
    let d = inside_parts t h l X i in
    let H = side_built b k X h d.1.0 in
    let L = side_built b k X l d.1.1 in
    by_test (is_later k t)
    (λ c. Built X (elim c [ true ↦ if b (side b k h) (side b k l) | false ↦ C.both (node t) (side b k h) (side b k l) ]))
    (λ _. by_test b (λ c. Built X (if c (side b k h) (side b k l))) (λ _. H) (λ _. L))
    (λ _. both_built (node t) (node_built t) H L)

pub expectation_built : (W : ℕ) (w : Tree) (k : ℕ) (F : Tree) (X : List Tree) → T (inside w X) → T (inside F X) → Built X (expectation W w k F)
unfolding expectation
expectation_built W w k F X a b =
    bind_built _ (side_built true k X F b)
    (λ X₁ s₁ y. bind_built _ (product_built X₁ w _ (inside_more s₁ w a) y)
    (λ X₂ s₂ p. bind_built _ (complement_built W X₂ w (inside_more (sub_trans s₁ s₂) w a))
    (λ X₃ s₃ v. bind_built _ (side_built false k X₃ F (inside_more (sub_trans s₁ (sub_trans s₂ s₃)) F b))
    (λ X₄ s₄ n. bind_built _ (product_built X₄ _ _ (inside_more s₄ _ v) n)
    (λ X₅ s₅ q. sum_built X₅ _ _ (inside_more (sub_trans s₃ (sub_trans s₄ s₅)) _ p) q)))))

pub reward_built : (power : ℕ) (reward : Tree) (a : ℕ) (F : Tree) (X : List Tree) → T (inside reward X) → T (inside F X) → Built X (add_reward power reward a F)
unfolding add_reward
reward_built power reward a F X r b = named_built (pos power)
    (bind_built _ (scale_built (pos power) X reward r)
    (λ Y s i. bind_built (number a) (sum_built Y F _ (inside_more s F b) i)
    (λ Z _ j. number_built a Z _ j)))
