-- Tables: the distinct nodes of diagrams, a node after its branches, and their numbers.
use Rattle.std.specs.Prelude.{◌≡◌, refl, ◌⊎◌, Bool, true, false, List, [], ◌∷◌, ◌++◌, ℕ, zero, suc, ◌+◌, ◌-◌, ◌≤◌, ◌<◌, leb, length, get_or}
use Rattle.std.proofs.Common.{sym, ap, ◌∙◌, inl, inr, ⊎_elim, arith, ltb→lt, nltb→le, length-append}
use Rattle.std.proofs.Math.ListN.{get_or-append}
use Rattle.std.proofs.lemmas.List.{get_or_at}
use Rattle.whole.specs.Cases.{if, by_test, by_eq, clash}
use Rattle.theory.specs.Diagram.{Test, Tree, leaf, branch, same}
use Rattle.theory.specs.Computation.{member, enter, enter_all}
use Rattle.theory.specs.Rules.{zero_leaf}
use Rattle.theory.specs.Solve.{number_of, table_of}
use Rattle.theory.specs.Events.{Distinct}
use Rattle.theory.proofs.laws.Comps.{same_eq, same_refl, member_append, member_cases, member_last, member_in}

-- ---- numbers

-- the number in a table with one more before it
abbrev later_by_one : ℕ → ℕ
later_by_one n = elim n [ zero ↦ 0 | suc k ↦ suc (suc k) ]

one_below : (n k : ℕ) → n ≤ k → later_by_one n ≤ suc k
one_below zero k h = omega arith
one_below (suc n) k h = omega arith

one_above : (n : ℕ) → 1 ≤ n → 1 ≤ later_by_one n
one_above zero h = absurd (omega arith)
one_above (suc n) h = omega arith

one_before : (n : ℕ) → 1 ≤ n → later_by_one n - 1 ≡ suc (n - 1)
one_before zero h = absurd (omega arith)
one_before (suc n) h = omega arith

pub number_below : (t : Tree) (X : List Tree) → number_of t X ≤ length X
unfolding number_of
number_below t [] = omega arith
number_below t (x ∷ X) = by_test (same x t) (λ b. if b 1 (later_by_one (number_of t X)) ≤ suc (length X)) (λ _. omega arith) (λ _. one_below (number_of t X) (length X) (number_below t X))

pub number_above : (t : Tree) (X : List Tree) → member t X ≡ true → 1 ≤ number_of t X
unfolding number_of member
number_above t [] e = clash (sym e)
number_above t (x ∷ X) e = go (same x t) e (number_above t X)
  where
    go : (b : Bool) → if b true (member t X) ≡ true → (member t X ≡ true → 1 ≤ number_of t X) → 1 ≤ if b 1 (later_by_one (number_of t X))
    go true e ih = omega arith
    go false e ih = one_above (number_of t X) (ih e)

-- a node is found under its number
pub number_entry : (d t : Tree) (X : List Tree) → member t X ≡ true → get_or X (number_of t X - 1) d ≡ t
unfolding number_of member
number_entry d t [] e = clash (sym e)
number_entry d t (x ∷ X) e = go (same x t) refl e (number_above t X) (number_entry d t X)
  where
    go : (b : Bool) → same x t ≡ b → if b true (member t X) ≡ true → (member t X ≡ true → 1 ≤ number_of t X) → (member t X ≡ true → get_or X (number_of t X - 1) d ≡ t)
        → get_or (x ∷ X) (if b 1 (later_by_one (number_of t X)) - 1) d ≡ t
    go true s e a ih = same_eq x t (rw s tt)
    go false s e a ih = ap (λ (i : ℕ). get_or (x ∷ X) i d) (one_before (number_of t X) (a e)) ∙ ih e

-- a node keeps its number as a table grows
pub number_keep : (t : Tree) (X Y : List Tree) → member t X ≡ true → number_of t (X ++ Y) ≡ number_of t X
unfolding number_of member
number_keep t [] Y e = clash (sym e)
number_keep t (x ∷ X) Y e = go (same x t) e (number_keep t X Y)
  where
    go : (b : Bool) → if b true (member t X) ≡ true → (member t X ≡ true → number_of t (X ++ Y) ≡ number_of t X)
        → if b 1 (later_by_one (number_of t (X ++ Y))) ≡ if b 1 (later_by_one (number_of t X))
    go true e ih = refl
    go false e ih = ap (λ (n : ℕ). later_by_one n) (ih e)

pub number_last : (t : Tree) (X : List Tree) → member t X ≡ false → number_of t (X ++ (t ∷ [])) ≡ suc (length X)
unfolding number_of member
number_last t [] e = ap (λ (b : Bool). if b 1 0) (same_refl t)
number_last t (x ∷ X) e = go (same x t) e (number_last t X)
  where
    go : (b : Bool) → if b true (member t X) ≡ false → (member t X ≡ false → number_of t (X ++ (t ∷ [])) ≡ suc (length X))
        → if b 1 (later_by_one (number_of t (X ++ (t ∷ [])))) ≡ suc (suc (length X))
    go true e ih = clash e
    go false e ih = ap (λ (n : ℕ). later_by_one n) (ih e)

at_end : (t : Tree) (X : List Tree) → member t X ≡ false → number_of t (X ++ (t ∷ [])) ≡ length (X ++ (t ∷ []))
at_end t X n = number_last t X n ∙ omega (arith, length-append X (t ∷ []))

-- ---- tables that grow

-- what is there stays, under its number
pub record GrownTrees (X Y : List Tree) : Type 0 where
  pub kept : (u : Tree) → member u X ≡ true → member u Y ≡ true
  pub numbered : (u : Tree) → member u X ≡ true → number_of u Y ≡ number_of u X

grown_refl : (X : List Tree) → GrownTrees X X
grown_refl X = record { kept = λ u m. m; numbered = λ u m. refl }

grown_trans : {X Y Z : List Tree} → GrownTrees X Y → GrownTrees Y Z → GrownTrees X Z
grown_trans g k = record { kept = λ u m. k.kept u (g.kept u m); numbered = λ u m. k.numbered u (g.kept u m) ∙ g.numbered u m }

grown_append : (X Y : List Tree) → GrownTrees X (X ++ Y)
grown_append X Y = record { kept = λ u m. member_append u X Y m; numbered = λ u m. number_keep u X Y m }

pub enter_grown : (F : Tree) (X : List Tree) → GrownTrees X (enter F X)
unfolding enter
enter_grown (leaf f) X = by_test (member (leaf f) X) (λ b. GrownTrees X (if b X (X ++ (leaf f ∷ [])))) (λ _. grown_refl X) (λ _. grown_append X (leaf f ∷ []))
enter_grown (branch t h l) X =
    let g = grown_trans (enter_grown h X) (enter_grown l (enter h X)) in
    by_test (member (branch t h l) X) (λ b. GrownTrees X (if b X (enter l (enter h X) ++ (branch t h l ∷ [])))) (λ _. grown_refl X)
    (λ _. grown_trans g (grown_append (enter l (enter h X)) (branch t h l ∷ [])))

pub enter_all_grown : (S X : List Tree) → GrownTrees X (enter_all S X)
unfolding enter_all
enter_all_grown [] X = grown_refl X
enter_all_grown (t ∷ S) X = grown_trans (enter_grown t X) (enter_all_grown S (enter t X))

pub enter_has : (F : Tree) (X : List Tree) → member F (enter F X) ≡ true
unfolding enter
enter_has (leaf f) X = by_eq (member (leaf f) X) (λ b. member (leaf f) (if b X (X ++ (leaf f ∷ []))) ≡ true) (λ e. e) (λ _. member_last (leaf f) X)
enter_has (branch t h l) X = by_eq (member (branch t h l) X) (λ b. member (branch t h l) (if b X (enter l (enter h X) ++ (branch t h l ∷ []))) ≡ true)
    (λ e. e) (λ _. member_last (branch t h l) (enter l (enter h X)))

pub enter_all_has : (d : Tree) (S X : List Tree) (i : ℕ) → i < length S → member (get_or S i d) (enter_all S X) ≡ true
unfolding enter_all
enter_all_has d [] X i h = absurd (omega arith)
enter_all_has d (t ∷ S) X zero h = (enter_all_grown S (enter t X)).kept t (enter_has t X)
enter_all_has d (t ∷ S) X (suc i) h = enter_all_has d S (enter t X) i (omega arith)

-- ---- a node comes once, after its branches

-- the branches are there, numbered below
pub record BranchesBelow (X : List Tree) (t : Test) (h l : Tree) : Type 0 where
  pub high_in : member h X ≡ true
  pub low_in : member l X ≡ true
  pub high_below : number_of h X < number_of (branch t h l) X
  pub low_below : number_of l X < number_of (branch t h l) X

-- with a node a table has its branches, so all its subtrees, and no two nodes are equal
pub record TreeTable (X : List Tree) : Type 0 where
  pub closed : (t : Test) (h l : Tree) → member (branch t h l) X ≡ true → BranchesBelow X t h l
  pub distinct : Distinct X

-- the branches of a node are there
abbrev Ready : Tree → List Tree → Type 0
Ready v X = (t : Test) (h l : Tree) → v ≡ branch t h l → (member h X ≡ true) × (member l X ≡ true)

-- a node that is not there leaves them distinct
pub distinct_add : (v : Tree) (X : List Tree) → member v X ≡ false → Distinct X → Distinct (X ++ (v ∷ []))
distinct_add v X n d i j hi hj e = go (place i hi) (place j hj)
  where
    place : (i : ℕ) → i < length (X ++ (v ∷ [])) → ((i < length X) × (get_or (X ++ (v ∷ [])) i zero_leaf ≡ get_or X i zero_leaf)) ⊎ ((i ≡ length X) × (get_or (X ++ (v ∷ [])) i zero_leaf ≡ v))
    place i h = by_test (leb (suc i) (length X)) (λ _. ((i < length X) × (get_or (X ++ (v ∷ [])) i zero_leaf ≡ get_or X i zero_leaf)) ⊎ ((i ≡ length X) × (get_or (X ++ (v ∷ [])) i zero_leaf ≡ v)))
        (λ t. let k = ltb→lt i (length X) t in inl (k, get_or-append X (v ∷ []) zero_leaf i k))
        (λ t. let k : i ≡ length X = omega (arith, nltb→le i (length X) t, simp length-append at h) in inr (k, get_or_at X v [] zero_leaf i (sym k)))

    gone : (i : ℕ) → i < length X → get_or X i zero_leaf ≡ v → ⊥
    gone i h q = clash (sym (member_in zero_leaf v X i h q) ∙ n)

    go : ((i < length X) × (get_or (X ++ (v ∷ [])) i zero_leaf ≡ get_or X i zero_leaf)) ⊎ ((i ≡ length X) × (get_or (X ++ (v ∷ [])) i zero_leaf ≡ v))
        → ((j < length X) × (get_or (X ++ (v ∷ [])) j zero_leaf ≡ get_or X j zero_leaf)) ⊎ ((j ≡ length X) × (get_or (X ++ (v ∷ [])) j zero_leaf ≡ v)) → i ≡ j
    go (inl a) (inl b) = d i j a.0 b.0 (sym a.1 ∙ e ∙ b.1)
    go (inl a) (inr b) = absurd (gone i a.0 (sym a.1 ∙ e ∙ b.1))
    go (inr a) (inl b) = absurd (gone j b.0 (sym b.1 ∙ sym e ∙ a.1))
    go (inr a) (inr b) = a.0 ∙ sym b.0

table_add : (v : Tree) (X : List Tree) → member v X ≡ false → Ready v X → TreeTable X → TreeTable (X ++ (v ∷ []))
table_add v X n r x = record {
  closed = λ t h l m. ⊎_elim (λ m. old t h l m (x.closed t h l m)) (λ q. new t h l q (r t h l q)) (member_cases (branch t h l) v X m);
  distinct = distinct_add v X n x.distinct;
}
  where
    Y : List Tree
    Y = X ++ (v ∷ [])

    old : (t : Test) (h l : Tree) → member (branch t h l) X ≡ true → BranchesBelow X t h l → BranchesBelow Y t h l
    old t h l m b = record {
      high_in = member_append h X (v ∷ []) b.high_in;
      low_in = member_append l X (v ∷ []) b.low_in;
      high_below = rw (number_keep h X (v ∷ []) b.high_in, number_keep (branch t h l) X (v ∷ []) m) b.high_below;
      low_below = rw (number_keep l X (v ∷ []) b.low_in, number_keep (branch t h l) X (v ∷ []) m) b.low_below;
    }

    last : (u : Tree) → member u X ≡ true → number_of u Y < number_of v Y
    last u m = rw (number_keep u X (v ∷ []) m, number_last v X n) (omega (arith, number_below u X))

    new : (t : Test) (h l : Tree) → v ≡ branch t h l → (member h X ≡ true) × (member l X ≡ true) → BranchesBelow Y t h l
    new t h l q m = record {
      high_in = member_append h X (v ∷ []) m.0;
      low_in = member_append l X (v ∷ []) m.1;
      high_below = rw (← q) (last h m.0);
      low_below = rw (← q) (last l m.1);
    }

-- ---- entering makes tables

abbrev size : Tree → ℕ
size (leaf f) = 0
size (branch t h l) = suc (size h + size l)

-- only what is no larger is entered with a diagram
enter_new : (F u : Tree) (X : List Tree) → member u (enter F X) ≡ true → (member u X ≡ true) ⊎ (size u ≤ size F)
unfolding enter
enter_new (leaf f) u X = by_test (member (leaf f) X) (λ b. member u (if b X (X ++ (leaf f ∷ []))) ≡ true → (member u X ≡ true) ⊎ (size u ≤ 0))
    (λ _ m. inl m) (λ _ m. ⊎_elim inl (λ q. inr (rw (← q) (omega arith))) (member_cases u (leaf f) X m))
enter_new (branch t h l) u X = by_test (member (branch t h l) X) (λ b. member u (if b X (enter l (enter h X) ++ (branch t h l ∷ []))) ≡ true → (member u X ≡ true) ⊎ (size u ≤ suc (size h + size l)))
    (λ _ m. inl m)
    (λ _ m. ⊎_elim (λ m. deep (enter_new h u X) (enter_new l u (enter h X) m)) (λ q. inr (rw (← q) (omega arith))) (member_cases u (branch t h l) (enter l (enter h X)) m))
  where
    deep : (member u (enter h X) ≡ true → (member u X ≡ true) ⊎ (size u ≤ size h)) → (member u (enter h X) ≡ true) ⊎ (size u ≤ size l) → (member u X ≡ true) ⊎ (size u ≤ suc (size h + size l))
    deep ih (inl m) = ⊎_elim inl (λ q. inr (omega arith)) (ih m)
    deep ih (inr q) = inr (omega arith)

-- a branch is not entered with its branches
pub enter_fresh : (t : Test) (h l : Tree) (X : List Tree) → member (branch t h l) X ≡ false → member (branch t h l) (enter l (enter h X)) ≡ false
enter_fresh t h l X n = by_eq (member (branch t h l) (enter l (enter h X))) (λ b. b ≡ false)
    (λ m. ⊎_elim (λ m. ⊎_elim (λ m. clash (sym m ∙ n)) (λ q. absurd (omega arith)) (enter_new h (branch t h l) X m)) (λ q. absurd (omega arith)) (enter_new l (branch t h l) (enter h X) m))
    (λ _. refl)

pub enter_table : (F : Tree) (X : List Tree) → TreeTable X → TreeTable (enter F X)
unfolding enter
enter_table (leaf f) X x = by_eq (member (leaf f) X) (λ b. TreeTable (if b X (X ++ (leaf f ∷ []))))
    (λ _. x) (λ n. table_add (leaf f) X n (λ t h l q. absurd (let z : ◌≡◌ {A = ℕ} 0 1 = cc in omega arith)) x)
enter_table (branch t h l) X x =
    let y = enter_table l (enter h X) (enter_table h X x) in
    by_eq (member (branch t h l) X) (λ b. TreeTable (if b X (enter l (enter h X) ++ (branch t h l ∷ []))))
    (λ _. x)
    (λ n. table_add (branch t h l) (enter l (enter h X)) (enter_fresh t h l X n)
    (λ u a b q. let qa : a ≡ h = cc in let qb : b ≡ l = cc in (rw qa ((enter_grown l (enter h X)).kept h (enter_has h X)), rw qb (enter_has l (enter h X)))) y)

pub enter_all_table : (S X : List Tree) → TreeTable X → TreeTable (enter_all S X)
unfolding enter_all
enter_all_table [] X x = x
enter_all_table (t ∷ S) X x = enter_all_table S (enter t X) (enter_table t X x)

pub no_table : TreeTable []
unfolding member
no_table = record { closed = λ t h l m. clash (sym m); distinct = λ i j h k e. absurd (omega arith) }

-- entering a diagram adds nothing, or its root comes last
enter_last : (F : Tree) (X : List Tree) → (enter F X ≡ X) ⊎ (number_of F (enter F X) ≡ length (enter F X))
unfolding enter
enter_last (leaf f) X = by_eq (member (leaf f) X) (λ b. let Y = if b X (X ++ (leaf f ∷ [])) in (Y ≡ X) ⊎ (number_of (leaf f) Y ≡ length Y)) (λ _. inl refl) (λ n. inr (at_end (leaf f) X n))
enter_last (branch t h l) X = by_eq (member (branch t h l) X)
    (λ b. let Y = if b X (enter l (enter h X) ++ (branch t h l ∷ [])) in (Y ≡ X) ⊎ (number_of (branch t h l) Y ≡ length Y)) (λ _. inl refl)
    (λ n. inr (at_end (branch t h l) (enter l (enter h X)) (enter_fresh t h l X n)))

-- so does entering some: one of their roots comes last
pub last_entered : (d : Tree) (S X : List Tree) → (enter_all S X ≡ X) ⊎ ((i : ℕ) × ((i < length S) × (number_of (get_or S i d) (enter_all S X) ≡ length (enter_all S X))))
unfolding enter_all
last_entered d [] X = inl refl
last_entered d (t ∷ S) X = ⊎_elim
    (λ e. ⊎_elim (λ q. inl (e ∙ q)) (λ n. inr (0, (omega arith, rw e n))) (enter_last t X))
    (λ r. inr (suc r.0, (omega (arith, r.1.0), r.1.1)))
    (last_entered d S (enter t X))

-- the solved table: every branch has its branches there, below it, and no two nodes are equal
pub table_of_table : (S : List Tree) → TreeTable (table_of S)
unfolding table_of
table_of_table S = enter_all_table S [] no_table

-- the stages are there
pub table_of_has : (d : Tree) (S : List Tree) (i : ℕ) → i < length S → member (get_or S i d) (table_of S) ≡ true
unfolding table_of
table_of_has d S i h = enter_all_has d S [] i h
