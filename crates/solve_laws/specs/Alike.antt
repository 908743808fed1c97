-- Roots in another order, or with one of them twice: the same nodes are needed.
use Rattle.std.specs.Prelude.{◌≡◌, refl, Bool, true, false, ◌⊎◌, List, [], ◌∷◌, ◌++◌, ℕ, ◌<◌, T, length, get_or}
use Rattle.std.proofs.Common.{ap, subst, inl, inr, ⊎_elim}
use Rattle.whole.specs.Cases.{if, same_bool, is_true, from_true}
use Rattle.theory.specs.Diagram.{Tree, same}
use Rattle.theory.specs.Computation.{Comp, member, run, enter_all}
use Rattle.theory.specs.Events.{inside, all_inside}
use Rattle.theory.proofs.laws.Comps.{same_eq, same_refl, member_in, member_find}
use Rattle.theory.proofs.laws.Counts.{distinct_roots}
use Rattle.theory.proofs.laws.Inside.{Sub, sub_refl, sub_trans, all_none, all_parts, all_cons, roots_inside, roots_sub}
use Rattle.collect.proofs.Order.{SameNodes, same_nodes, SameOut, run_order}

-- each of one list is one of the other
pub record Alike (R S : List Tree) : Type 0 where
  pub onto : Sub R S
  pub back : Sub S R

pub alike_refl : (R : List Tree) → Alike R R
alike_refl R = record { onto = sub_refl; back = sub_refl }

pub alike_sym : {R S : List Tree} → Alike R S → Alike S R
alike_sym a = record { onto = a.back; back = a.onto }

pub alike_trans : {R S Q : List Tree} → Alike R S → Alike S Q → Alike R Q
alike_trans a b = record { onto = sub_trans a.onto b.onto; back = sub_trans b.back a.back }

pub alike_eq : {R S : List Tree} → R ≡ S → Alike R S
alike_eq {R} e = subst (Alike R) e (alike_refl R)

-- ---- members

pub member_head : (u : Tree) (R : List Tree) → T (member u (u ∷ R))
unfolding member
member_head u R = from_true (ap (λ (b : Bool). if b true (member u R)) (same_refl u))

pub member_tail : (u t : Tree) (R : List Tree) → T (member u R) → T (member u (t ∷ R))
unfolding member
member_tail u t R m = go (same t u)
  where
    go : (b : Bool) → T (if b true (member u R))
    go true = tt
    go false = m

pub member_either : (u t : Tree) (R : List Tree) → T (member u (t ∷ R)) → (t ≡ u) ⊎ T (member u R)
unfolding member
member_either u t R m = go (same t u) refl m
  where
    go : (b : Bool) → same t u ≡ b → T (if b true (member u R)) → (t ≡ u) ⊎ T (member u R)
    go true e m = inl (same_eq t u (from_true e))
    go false e m = inr m

pub member_left : (u : Tree) (R S : List Tree) → T (member u R) → T (member u (R ++ S))
unfolding member
member_left u [] S m = absurd m
member_left u (t ∷ R) S m = ⊎_elim (λ (e : t ≡ u). subst (λ (v : Tree). T (member v (t ∷ (R ++ S)))) e (member_head t (R ++ S))) (λ (q : T (member u R)). member_tail u t (R ++ S) (member_left u R S q)) (member_either u t R m)

pub member_right : (u : Tree) (R S : List Tree) → T (member u S) → T (member u (R ++ S))
member_right u [] S m = m
member_right u (t ∷ R) S m = member_tail u t (R ++ S) (member_right u R S m)

pub member_parts : (u : Tree) (R S : List Tree) → T (member u (R ++ S)) → T (member u R) ⊎ T (member u S)
member_parts u [] S m = inr m
member_parts u (t ∷ R) S m = ⊎_elim (λ (e : t ≡ u). inl (subst (λ (v : Tree). T (member v (t ∷ R))) e (member_head t R)))
    (λ (q : T (member u (R ++ S))). ⊎_elim (λ (a : T (member u R)). inl (member_tail u t R a)) (λ (b : T (member u S)). inr b) (member_parts u R S q))
    (member_either u t (R ++ S) m)

-- ---- lists put together

pub sub_append : {R S Q Z : List Tree} → Sub R Q → Sub S Z → Sub (R ++ S) (Q ++ Z)
sub_append {R} {S} {Q} {Z} a b = record { take = λ u m. ⊎_elim (λ x. member_left u Q Z (a.take u x)) (λ y. member_right u Q Z (b.take u y)) (member_parts u R S m) }

sub_turn : (R S : List Tree) → Sub (R ++ S) (S ++ R)
sub_turn R S = record { take = λ u m. ⊎_elim (λ x. member_right u S R x) (λ y. member_left u S R y) (member_parts u R S m) }

pub alike_append : {R S Q Z : List Tree} → Alike R Q → Alike S Z → Alike (R ++ S) (Q ++ Z)
alike_append a b = record { onto = sub_append a.onto b.onto; back = sub_append a.back b.back }

pub alike_turn : (R S : List Tree) → Alike (R ++ S) (S ++ R)
alike_turn R S = record { onto = sub_turn R S; back = sub_turn S R }

pub alike_cons : (t : Tree) {R S : List Tree} → Alike R S → Alike (t ∷ R) (t ∷ S)
alike_cons t a = alike_append (alike_refl (t ∷ [])) a

-- the last first
pub alike_last : (t : Tree) (R : List Tree) → Alike (t ∷ R) (R ++ (t ∷ []))
alike_last t R = alike_turn (t ∷ []) R

-- one that is there already
pub alike_twice : (t : Tree) (R : List Tree) → T (member t R) → Alike (t ∷ R) R
alike_twice t R m = record {
  onto = record { take = λ u q. ⊎_elim (λ (e : t ≡ u). subst (λ (v : Tree). T (member v R)) e m) (λ x. x) (member_either u t R q) };
  back = record { take = λ u q. member_tail u t R q };
}

-- by index
pub sub_by : (d : Tree) (R S : List Tree) → ((i : ℕ) → i < length R → T (member (get_or R i d) S)) → Sub R S
sub_by d R S f = record { take = λ u m. let p = member_find d u R (is_true _ m) in subst (λ (v : Tree). T (member v S)) p.2 (f p.0 p.1) }

pub member_at : (d : Tree) (R : List Tree) (i : ℕ) → i < length R → T (member (get_or R i d) R)
member_at d R i h = from_true (member_in d (get_or R i d) R i h refl)

-- ---- the nodes that are needed

inside_of : (S Y : List Tree) (u : Tree) → T (member u S) → T (all_inside S Y) → T (inside u Y)
unfolding member
inside_of [] Y u m a = absurd m
inside_of (s ∷ S) Y u m a =
    let d = all_parts s S Y a in
    ⊎_elim (λ (e : s ≡ u). subst (λ (v : Tree). T (inside v Y)) e d.0) (λ (q : T (member u S)). inside_of S Y u q d.1) (member_either u s S m)

all_of : (R S Y : List Tree) → ((u : Tree) → T (member u R) → T (member u S)) → T (all_inside S Y) → T (all_inside R Y)
all_of [] S Y f a = all_none Y
all_of (r ∷ R) S Y f a = all_cons r R Y (inside_of S Y r (f r (member_head r R)) a) (all_of R S Y (λ u m. f u (member_tail u r R m)) a)

-- the nodes of roots that are alike are the same ones
pub same_roots : (R S : List Tree) → Alike R S → SameNodes (enter_all R []) (enter_all S [])
same_roots R S a = same_nodes (enter_all R []) (enter_all S []) (distinct_roots R) (distinct_roots S) (λ u. same_bool (member u (enter_all R [])) (member u (enter_all S []))
    (λ m. (roots_sub R (enter_all S []) (all_of R S (enter_all S []) a.onto.take (roots_inside S))).take u m)
    (λ m. (roots_sub S (enter_all R []) (all_of S R (enter_all R []) a.back.take (roots_inside R))).take u m))

-- so a run over either is the same
pub roots_run : {A : Type 0} (N : ℕ) (c : Comp A) (R S : List Tree) → Alike R S → SameOut (run N c (enter_all R [])) (run N c (enter_all S []))
roots_run N c R S a = run_order N c (enter_all R []) (enter_all S []) (same_roots R S a)
