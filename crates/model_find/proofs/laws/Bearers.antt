-- Lists of those that carry a name: each once, and no others. What they tell does not depend on their order.
use Rattle.std.specs.Prelude.{◌≡◌, ℕ, zero, suc, ◌+◌, ◌-◌, ◌≤◌, ◌<◌}
use Rattle.std.proofs.Math.Path.{refl, sym, ap, subst}
use Rattle.std.proofs.Common.{◌∙◌, arith, T_not}
use Rattle.std.proofs.Math.Logic.{⊎_elim}
use mathlib.Core.List.Memᴰ
use mathlib.Core.List.{List, [], ◌∷◌, Memᴰ}
use Rattle.std.proofs.Math.Dec.{T}
use Rattle.whole.specs.Cases.{if, by_test}
use Rattle.theory.specs.Verdict.{from_to}
use Rattle.theory.specs.Load.{site_at}
use Rattle.theory.specs.Name.{name}
use Rattle.model_find.specs.Find.{FindOut, refused_find, found, carries, bearers, found_among}
use Rattle.model_find.specs.Statements.{Carries}
use Rattle.model_find.proofs.laws.Spaces.{same_is, same_self}

-- no number twice
abbrev pub DistinctNumbers : List ℕ → Type 0
DistinctNumbers [] = Unit {0}
DistinctNumbers (a ∷ l) = (Memᴰ a l → ⊥) × DistinctNumbers l

-- those of which P holds
pub record Lists (P : ℕ → Type 0) (l : List ℕ) : Type 0 where
  pub once : DistinctNumbers l
  pub each : (a : ℕ) → Memᴰ a l → P a
  pub all : (a : ℕ) → P a → Memᴰ a l

-- what is told of them
pub data TellsBearers (P : ℕ → Type 0) : FindOut → Type 0 where
  tells_none : ((a : ℕ) → P a → ⊥) → TellsBearers P (refused_find 18 0)
  tells_one : {a : ℕ} → P a → ((b : ℕ) → P b → b ≡ a) → TellsBearers P (found a)
  tells_several : {a b : ℕ} → P a → P b → (a ≡ b → ⊥) → TellsBearers P (refused_find 19 0)

module _ {P : ℕ → Type 0} where
  pub tells : (l : List ℕ) → Lists P l → TellsBearers P (found_among l)
  unfolding found_among
  tells [] d = tells_none (λ a p. Memᴰ.not-nil (d.all a p))
  tells (a ∷ []) d = tells_one (d.each a (Memᴰ.head refl)) (λ b p. ⊎_elim (λ e. e) (λ m. absurd (Memᴰ.not-nil m)) (Memᴰ.cases_cons (d.all b p)))
  tells (a ∷ b ∷ l) d = tells_several (d.each a (Memᴰ.head refl)) (d.each b (Memᴰ.tail (Memᴰ.head refl))) (λ e. d.once.0 (Memᴰ.head e))

  pub told_is : (l : List ℕ) → Lists P l → {o : FindOut} → TellsBearers P o → found_among l ≡ o
  unfolding found_among
  told_is [] d (tells_none f) = refl
  told_is (c ∷ l) d (tells_none f) = absurd (f c (d.each c (Memᴰ.head refl)))
  told_is [] d (tells_one {a = a} p f) = absurd (Memᴰ.not-nil (d.all a p))
  told_is (c ∷ []) d (tells_one {a = a} p f) = ap found (f c (d.each c (Memᴰ.head refl)))
  told_is (c ∷ b ∷ l) d (tells_one {a = a} p f) =
      absurd (d.once.0 (Memᴰ.head (f c (d.each c (Memᴰ.head refl)) ∙ sym (f b (d.each b (Memᴰ.tail (Memᴰ.head refl)))))))
  told_is [] d (tells_several {a = a} p q n) = absurd (Memᴰ.not-nil (d.all a p))
  told_is (c ∷ []) d (tells_several {a = a} {b = b} p q n) = absurd (n (only a p ∙ sym (only b q)))
    where
      only : (a : ℕ) → P a → a ≡ c
      only a p = ⊎_elim (λ e. e) (λ m. absurd (Memᴰ.not-nil m)) (Memᴰ.cases_cons (d.all a p))
  told_is (c ∷ b ∷ l) d (tells_several p q n) = refl

-- ---- the actions

from_in : (s k a : ℕ) → Memᴰ a (from_to s k) → (s ≤ a) × (a < s + k)
unfolding from_to
from_in s zero a m = absurd (Memᴰ.not-nil m)
from_in s (suc k) a m = ⊎_elim (λ e. (omega arith, omega arith)) (λ n. let d = from_in (suc s) k a n in (omega (arith, d.0), omega (arith, d.1))) (Memᴰ.cases_cons m)

in_from : (s k a : ℕ) → s ≤ a → a < s + k → Memᴰ a (from_to s k)
unfolding from_to
in_from s zero a h l = absurd (omega arith)
in_from s (suc k) a h l = by_first (a - s) refl (λ g. in_from (suc s) k a g (omega arith))
  where
    by_first : (j : ℕ) → a - s ≡ j → (suc s ≤ a → Memᴰ a (from_to (suc s) k)) → Memᴰ a (s ∷ from_to (suc s) k)
    by_first zero e f = let i : a ≡ s = omega arith in Memᴰ.head i
    by_first (suc j) e f = Memᴰ.tail (f (omega arith))

from_once : (s k : ℕ) → DistinctNumbers (from_to s k)
unfolding from_to
from_once s zero = tt
from_once s (suc k) = (λ m. absurd (omega (arith, (from_in (suc s) k s m).0)), from_once (suc s) k)

-- ---- the bearers

module _ (B x : List ℕ) where
  bearer_in : (l : List ℕ) (a : ℕ) → Memᴰ a (bearers B x l) → Memᴰ a l × T (carries B x a)
  unfolding bearers
  bearer_in [] a m = absurd (Memᴰ.not-nil m)
  bearer_in (b ∷ l) a m = by_test (carries B x b) (λ t. Memᴰ a (if t (b ∷ bearers B x l) (bearers B x l)) → carries B x b ≡ t → Memᴰ a (b ∷ l) × T (carries B x a))
      (λ t m e. ⊎_elim (λ i. (Memᴰ.head i, subst (λ (c : ℕ). T (carries B x c)) (sym i) t)) (λ n. let d = bearer_in l a n in (Memᴰ.tail d.0, d.1)) (Memᴰ.cases_cons m))
      (λ _ m e. let d = bearer_in l a m in (Memᴰ.tail d.0, d.1))
      m refl

  in_bearers : (l : List ℕ) (a : ℕ) → Memᴰ a l → T (carries B x a) → Memᴰ a (bearers B x l)
  unfolding bearers
  in_bearers [] a m t = absurd (Memᴰ.not-nil m)
  in_bearers (b ∷ l) a m t = by_test (carries B x b) (λ c. Memᴰ a (if c (b ∷ bearers B x l) (bearers B x l)))
      (λ _. ⊎_elim (λ i. Memᴰ.head i) (λ n. Memᴰ.tail (in_bearers l a n t)) (Memᴰ.cases_cons m))
      (λ n. ⊎_elim (λ i. absurd (T_not (carries B x b) n (subst (λ (c : ℕ). T (carries B x c)) i t))) (λ m. in_bearers l a m t) (Memᴰ.cases_cons m))

  bearers_once : (l : List ℕ) → DistinctNumbers l → DistinctNumbers (bearers B x l)
  unfolding bearers
  bearers_once [] d = tt
  bearers_once (b ∷ l) d = by_test (carries B x b) (λ c. DistinctNumbers (if c (b ∷ bearers B x l) (bearers B x l)))
      (λ _. (λ m. d.0 (bearer_in l b m).0, bearers_once l d.1))
      (λ _. bearers_once l d.1)

carries_out : (B x : List ℕ) (a : ℕ) → T (carries B x a) → (x ≡ [] → ⊥) × (name B a ≡ x)
unfolding carries
carries_out B [] a t = absurd t
carries_out B (b ∷ x) a t = (λ e. absurd (let z : ◌≡◌ {A = ℕ} 0 1 = cc in omega arith), same_is (name B a) (b ∷ x) t)

carries_in : (B x : List ℕ) (a : ℕ) → (x ≡ [] → ⊥) → name B a ≡ x → T (carries B x a)
unfolding carries
carries_in B [] a f e = absurd (f refl)
carries_in B (b ∷ x) a f e = rw e (same_self (b ∷ x))

-- the bearers of 1 to A are those that carry it
pub bearers_listed : (B x : List ℕ) → Lists (Carries B x) (bearers B x (from_to 1 (site_at B).actions))
bearers_listed B x =
    let A = (site_at B).actions in
    record {
      once = bearers_once B x (from_to 1 A) (from_once 1 A);
      each = λ a m.
          let d = bearer_in B x (from_to 1 A) a m in
          let r = from_in 1 A a d.0 in
          let c = carries_out B x a d.1 in
          record { some = c.0; among = (r.0, omega (arith, r.1)); named = c.1 };
      all = λ a c. in_bearers B x (from_to 1 A) a (in_from 1 A a c.among.0 (omega (arith, c.among.1))) (carries_in B x a c.some c.named);
    }
