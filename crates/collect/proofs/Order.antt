-- A run does not depend on the order of the nodes that are there.
use mathlib.Core.Path.{◌≡◌, refl, sym, ap, ◌∙◌, subst}
use mathlib.Core.Bool.{Bool, true, false}
use mathlib.Core.List.{List, [], ◌∷◌, ◌++◌}
use Prim.Native.Nat.{ℕ, ◌+◌}
use native.Mathlib.Omega.{arith}
use lib.Dec.{ltb}
use lib.ListN.{length, length-append}
use Rattle.whole.specs.Cases.{if, by_test}
use Rattle.whole.specs.Within.{small}
use Rattle.theory.specs.Diagram.{Tree, same}
use Rattle.theory.specs.Computation.{Comp, ret, named, made, Out, done, stopped, member, run}
use Rattle.theory.specs.Events.{Distinct}
use Rattle.theory.proofs.laws.Counts.{distinct_fit}
use Rattle.theory.proofs.laws.Table.{distinct_add}

-- the same nodes, each once, in any order
pub record SameNodes (X Y : List Tree) : Type 0 where
  pub left : Distinct X
  pub right : Distinct Y
  pub members : (u : Tree) → member u X ≡ member u Y
  pub count : length X ≡ length Y

-- distinct nodes that are the same ones are as many
pub same_nodes : (X Y : List Tree) → Distinct X → Distinct Y → ((u : Tree) → member u X ≡ member u Y) → SameNodes X Y
same_nodes X Y d e m = record { left = d; right = e; members = m; count = as_many }
  where
    as_many : length X ≡ length Y
    as_many =
        let p = distinct_fit X Y d (λ u h. sym (m u) ∙ h) in
        let q = distinct_fit Y X e (λ u h. m u ∙ h) in omega arith

-- both stop with one number, or both are done with one result and the same nodes
pub data SameOut {A : Type 0} : Out A → Out A → Type 0 where
  both_done : (a : A) {X Y : List Tree} → SameNodes X Y → SameOut (done a X) (done a Y)
  both_stopped : (k : ℕ) → SameOut (stopped k) (stopped k)

-- what the second is, from what the first is
pub done_as : {A : Type 0} {a : A} {X : List Tree} {o : Out A} → SameOut (done a X) o → (Y : List Tree) × (o ≡ done a Y) × SameNodes X Y
done_as (both_done a {X} {Y} s) = (Y, refl, s)

pub stopped_as : {A : Type 0} {k : ℕ} {o : Out A} → SameOut (stopped k) o → o ≡ stopped k
stopped_as (both_stopped k) = refl

pub turned : {A : Type 0} {o p : Out A} → SameOut o p → SameOut p o
turned (both_done a s) = both_done a (record { left = s.right; right = s.left; members = λ u. sym (s.members u); count = sym s.count })
turned (both_stopped k) = both_stopped k

-- ---- one node more

member_last_of : (u t : Tree) (X : List Tree) → member u (X ++ (t ∷ [])) ≡ if (member u X) true (if (same t u) true false)
unfolding member
member_last_of u t [] = refl
member_last_of u t (x ∷ X) = go (same x u) (member_last_of u t X)
  where
    go : (b : Bool) → member u (X ++ (t ∷ [])) ≡ if (member u X) true (if (same t u) true false)
        → if b true (member u (X ++ (t ∷ []))) ≡ if (if b true (member u X)) true (if (same t u) true false)
    go true e = refl
    go false e = e

one_more : (t : Tree) (X Y : List Tree) → SameNodes X Y → member t X ≡ false → SameNodes (X ++ (t ∷ [])) (Y ++ (t ∷ []))
one_more t X Y s e = record {
  left = distinct_add t X e s.left;
  right = distinct_add t Y (sym (s.members t) ∙ e) s.right;
  members = λ u. member_last_of u t X ∙ (ap (λ (b : Bool). if b true (if (same t u) true false)) (s.members u) ∙ sym (member_last_of u t Y));
  count = length-append X (t ∷ []) ∙ (ap (λ (k : ℕ). k + 1) s.count ∙ sym (length-append Y (t ∷ [])));
}

-- ---- the run

-- a node made: b, whether it is there; d, whether there is room
abbrev ran : {A : Type 0} → ℕ → Tree → Comp A → List Tree → Bool → Bool → Out A
ran N t m X b d = if b (run N m X) (if d (run N m (X ++ (t ∷ []))) (stopped 12))

pub run_order : {A : Type 0} (N : ℕ) (c : Comp A) (X Y : List Tree) → SameNodes X Y → SameOut (run N c X) (run N c Y)
unfolding run
run_order N (ret a) X Y s = both_done a s
run_order N (named z m) X Y s = by_test (small z) (λ b. SameOut (if b (run N m X) (stopped 11)) (if b (run N m Y) (stopped 11))) (λ _. run_order N m X Y s) (λ _. both_stopped 11)
run_order {A} N (made t m) X Y s = as_there (cases (member t X) refl (ltb (length X) N) (run_order N m X Y s) (run_order N m (X ++ (t ∷ [])) (Y ++ (t ∷ []))))
  where
    cases : (b : Bool) → member t X ≡ b → (d : Bool) → SameOut (run N m X) (run N m Y) →
        (SameNodes (X ++ (t ∷ [])) (Y ++ (t ∷ [])) → SameOut (run N m (X ++ (t ∷ []))) (run N m (Y ++ (t ∷ [])))) → SameOut (ran N t m X b d) (ran N t m Y b d)
    cases true e d i j = i
    cases false e true i j = j (one_more t X Y s e)
    cases false e false i j = both_stopped 12

    -- Y has t where X has it, and as many nodes
    as_there : SameOut (ran N t m X (member t X) (ltb (length X) N)) (ran N t m Y (member t X) (ltb (length X) N)) → SameOut (ran N t m X (member t X) (ltb (length X) N)) (ran N t m Y (member t Y) (ltb (length Y) N))
    as_there o = subst (λ (k : ℕ). SameOut (ran N t m X (member t X) (ltb (length X) N)) (ran N t m Y (member t Y) (ltb k N))) s.count
        (subst (λ (b : Bool). SameOut (ran N t m X (member t X) (ltb (length X) N)) (ran N t m Y b (ltb (length X) N))) (s.members t) o)

-- distinct nodes that are the same ones give the same run
pub run_same : {A : Type 0} (N : ℕ) (c : Comp A) (X Y : List Tree) → Distinct X → Distinct Y → ((u : Tree) → member u X ≡ member u Y) → SameOut (run N c X) (run N c Y)
run_same N c X Y d e m = run_order N c X Y (same_nodes X Y d e m)
