-- Needed nodes are counted once, and no more than there are.
use Rattle.std.specs.Prelude.{◌≡◌, refl, Bool, true, false, List, [], ◌∷◌, ◌++◌, suc, ◌+◌, ◌≤◌, T, length}
use Rattle.std.proofs.Common.{sym, ap, ◌∙◌, arith}
use Rattle.whole.specs.Cases.{if, by_eq, is_true, from_true, clash}
use Rattle.theory.specs.Diagram.{Tree, same}
use Rattle.theory.specs.Computation.{member, enter_all}
use Rattle.theory.specs.Rules.{zero_leaf}
use Rattle.theory.specs.Events.{Event, names, makes, needed, Distinct, all_inside}
use Rattle.theory.proofs.laws.Comps.{same_eq, same_refl, member_find, with_made}
use Rattle.theory.proofs.laws.Table.{distinct_add, enter_all_table, no_table}
use Rattle.theory.proofs.laws.Inside.{roots_sub}

-- ---- no two are equal

pub distinct_made : (t : Tree) (X : List Tree) → Distinct X → Distinct (with_made t X)
unfolding with_made
distinct_made t X D = by_eq (member t X) (λ b. Distinct (if b X (X ++ (t ∷ [])))) (λ _. D) (λ n. distinct_add t X n D)

pub distinct_needed : (X : List Tree) (l : List Event) → Distinct X → Distinct (needed X l)
unfolding needed with_made
distinct_needed X [] D = D
distinct_needed X (names z ∷ l) D = distinct_needed X l D
distinct_needed X (makes t ∷ l) D = distinct_needed (with_made t X) l (distinct_made t X D)

pub distinct_roots : (roots : List Tree) → Distinct (enter_all roots [])
distinct_roots roots = (enter_all_table roots [] no_table).distinct

pub counts_distinct : (roots : List Tree) (l : List Event) → Distinct (needed (enter_all roots []) l)
counts_distinct roots l = distinct_needed (enter_all roots []) l (distinct_roots roots)

-- ---- no more distinct nodes than there are

-- the first such taken out
without : Tree → List Tree → List Tree
without u [] = []
without u (x ∷ X) = if (same x u) X (x ∷ without u X)

without_length : (u : Tree) (X : List Tree) → member u X ≡ true → length X ≡ suc (length (without u X))
unfolding without member
without_length u [] h = clash (sym h)
without_length u (x ∷ X) h = go (same x u) h (without_length u X)
  where
    go : (b : Bool) → if b true (member u X) ≡ true → (member u X ≡ true → length X ≡ suc (length (without u X))) → suc (length X) ≡ suc (length (if b X (x ∷ without u X)))
    go true h ih = refl
    go false h ih = ap suc (ih h)

without_member : (u v : Tree) (X : List Tree) → (u ≡ v → ⊥) → member v X ≡ true → member v (without u X) ≡ true
unfolding without member
without_member u v [] n h = h
without_member u v (x ∷ X) n h = go (same x u) refl (same x v) refl h (without_member u v X n)
  where
    go : (b : Bool) → same x u ≡ b → (c : Bool) → same x v ≡ c → if c true (member v X) ≡ true → (member v X ≡ true → member v (without u X) ≡ true)
        → member v (if b X (x ∷ without u X)) ≡ true
    go true e true f h ih = absurd (n (sym (same_eq x u (from_true e)) ∙ same_eq x v (from_true f)))
    go true e false f h ih = h
    go false e true f h ih = rw f refl
    go false e false f h ih = rw f (ih h)

pub distinct_tail : (x : Tree) (X : List Tree) → Distinct (x ∷ X) → Distinct X
distinct_tail x X D i j p q e = let z = D (suc i) (suc j) (omega arith) (omega arith) e in omega arith

head_apart : (x u : Tree) (X : List Tree) → Distinct (x ∷ X) → member u X ≡ true → x ≡ u → ⊥
head_apart x u X D m e =
    let f = member_find zero_leaf u X m in
    let h = f.1 in
    let z = D 0 (suc f.0) (omega arith) (omega arith) (e ∙ sym f.2) in
    omega arith

-- the pigeonhole: distinct nodes that are all among Y are no more than Y has
pub distinct_fit : (X Y : List Tree) → Distinct X → ((u : Tree) → member u X ≡ true → member u Y ≡ true) → length X ≤ length Y
unfolding member
distinct_fit [] Y D s = omega arith
distinct_fit (x ∷ X) Y D s =
    let m = s x (ap (λ b. if b true (member x X)) (same_refl x)) in
    let n = without_length x Y m in
    let h = distinct_fit X (without x Y) (distinct_tail x X D) (λ u i. without_member x u Y (head_apart x u X D i) (s u (in_tail (same x u) (member u X) i))) in
    omega arith
  where
    in_tail : (b c : Bool) → c ≡ true → if b true c ≡ true
    in_tail true c e = refl
    in_tail false c e = e

-- diagrams among X bring nothing new
pub roots_fit : (roots X : List Tree) → T (all_inside roots X) → length (enter_all roots []) ≤ length X
roots_fit roots X h = distinct_fit (enter_all roots []) X (distinct_roots roots) (λ u m. is_true _ ((roots_sub roots X h).take u (from_true m)))
