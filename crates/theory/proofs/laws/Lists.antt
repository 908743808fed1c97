-- Laws of the greatest of some, of means and of sums.
use Rattle.std.specs.Prelude.{◌≡◌, pos}
use Rattle.std.proofs.Math.Path.{refl, sym, ap, ap₂}
use Rattle.std.proofs.Common.{◌∙◌}
use Rattle.std.proofs.Math.Logic.{⊎_elim}
use mathlib.Core.List.Memᴰ
use mathlib.Core.List.{List, [], ◌∷◌, ◌++◌, Memᴰ}
use Prim.Native.Nat.{ℕ, zero, suc, ◌+◌, ◌*◌, ◌≤◌, ◌<◌}
use native.Mathlib.Omega.{arith}
use Rattle.std.proofs.Math.Nat.{mul-le-mul_left}
use Rattle.std.proofs.Math.Dec.{T_not}
use Rattle.whole.specs.Cases.{if, by_test}
use Rattle.theory.specs.Total.{Total, num, none, le_total, ◌⊑◌, Has, ◌⊕◌, weigh, max_total, mean, greatest_from, first_best, Lowest}
use Rattle.theory.specs.Loss.{sum}
use Rattle.theory.proofs.laws.Total.{⊑_refl, ⊑_trans, max_left, max_right, sums, pos-⊕, weigh_ext, weigh-⊕, weigh_swap, weigh_nothing, weigh_pos, has_left, has_right, has_weigh, weigh_is_none, has_not_none, one_none, by_has}

-- ---- the greatest of some

module _ {A : Type 0} (f : A → Total) where
  pub from_above : (x : Total) (l : List A) → x ⊑ greatest_from f x l
  unfolding greatest_from
  from_above x [] = ⊑_refl x
  from_above x (b ∷ l) = ⊑_trans x (max_total x (f b)) _ (max_left x (f b)) (from_above (max_total x (f b)) l)

  from_each : (x : Total) (l : List A) (b : A) → Memᴰ b l → f b ⊑ greatest_from f x l
  unfolding greatest_from
  from_each x [] b m = absurd (Memᴰ.not-nil m)
  from_each x (c ∷ l) b m = ⊎_elim
      (λ i. rw i (⊑_trans (f c) (max_total x (f c)) _ (max_right x (f c)) (from_above (max_total x (f c)) l)))
      (λ i. from_each (max_total x (f c)) l b i)
      (Memᴰ.cases_cons m)

  pub greatest_above : (a : A) (l : List A) (b : A) → Memᴰ b (a ∷ l) → f b ⊑ greatest_from f (f a) l
  greatest_above a l b m = ⊎_elim (λ i. rw i (from_above (f a) l)) (λ i. from_each (f a) l b i) (Memᴰ.cases_cons m)

  pub first_best_is : (a : A) (l : List A) → greatest_from f (f a) l ≡ f (first_best f a l)
  unfolding first_best greatest_from max_total
  first_best_is a [] = refl
  first_best_is a (b ∷ l) =
      ap (λ x. greatest_from f x l) (by_test (le_total (f b) (f a)) (λ c. if c (f a) (f b) ≡ f (if c a b)) (λ _. refl) (λ _. refl))
      ∙ first_best_is (if (le_total (f b) (f a)) a b) l

  pub first_best_in : (a : A) (l : List A) → Memᴰ (first_best f a l) (a ∷ l)
  unfolding first_best
  first_best_in a [] = Memᴰ.head refl
  first_best_in a (b ∷ l) = by_test (le_total (f b) (f a)) (λ c. Memᴰ (first_best f (if c a b) l) (a ∷ (b ∷ l)))
      (λ _. ⊎_elim (λ q. Memᴰ.head q) (λ i. Memᴰ.tail (Memᴰ.tail i)) (Memᴰ.cases_cons (first_best_in a l)))
      (λ _. Memᴰ.tail (first_best_in b l))

module _ {A : Type 0} (f : A → Total) where
  later_kept : (a b c : A) (l k r : List A) → f b ⊑ f a → a ∷ l ≡ k ++ (c ∷ r) → ((d : A) → Memᴰ d k → f c ⊑ f d → ⊥) → Lowest f (a ∷ (b ∷ l)) c
  later_kept a b c l [] r h q n = record { before = []; after = b ∷ l; split = cc; less = λ d m. absurd (Memᴰ.not-nil m) }
  later_kept a b c l (x ∷ k) r h q n = record {
    before = a ∷ (b ∷ k);
    after = r;
    split = cc;
    less = λ d m g. ⊎_elim (λ i. top (rw i at g))
        (λ j. ⊎_elim (λ i. top (⊑_trans (f c) (f b) (f a) (rw i at g) h)) (λ j. n d (Memᴰ.tail j) g) (Memᴰ.cases_cons j)) (Memᴰ.cases_cons m);
  }
    where
      same : a ≡ x
      same = cc

      top : f c ⊑ f a → ⊥
      top g = n a (Memᴰ.head same) g

  -- the first at which f is largest
  pub first_best_lowest : (a : A) (l : List A) → Lowest f (a ∷ l) (first_best f a l)
  unfolding first_best
  first_best_lowest a [] = record { before = []; after = []; split = refl; less = λ d m. absurd (Memᴰ.not-nil m) }
  first_best_lowest a (b ∷ l) = by_test (le_total (f b) (f a)) (λ c. Lowest f (a ∷ (b ∷ l)) (first_best f (if c a b) l))
      (λ t. let p = first_best_lowest a l in later_kept a b _ l p.before p.after (record { le = t }) p.split p.less)
      (λ t. let p = first_best_lowest b l in record {
        before = a ∷ p.before;
        after = p.after;
        split = ap (λ (r : List A). a ∷ r) p.split;
        less = λ d m g. ⊎_elim (λ i. T_not (le_total (f b) (f a)) t (⊑_trans (f b) _ (f a) (above b l) (rw i at g)).le) (λ j. p.less d j g) (Memᴰ.cases_cons m);
      })
    where
      above : (b : A) (l : List A) → f b ⊑ f (first_best f b l)
      above b l = rw (← first_best_is f b l) (from_above f (f b) l)

-- ---- means

module _ {E : Type 0} (w : E → ℕ) where
  pub mean_ext : (f g : E → Total) (l : List E) → ((e : E) → Memᴰ e l → 0 < w e → f e ≡ g e) → mean w f l ≡ mean w g l
  unfolding mean
  mean_ext f g [] h = refl
  mean_ext f g (e ∷ l) h = ap₂ ◌⊕◌ (weigh_ext (w e) (f e) (g e) (h e (Memᴰ.head refl))) (mean_ext f g l (λ d m. h d (Memᴰ.tail m)))

  pub mean-⊕ : (f g : E → Total) (l : List E) → mean w (λ e. f e ⊕ g e) l ≡ mean w f l ⊕ mean w g l
  unfolding mean
  mean-⊕ f g [] = sym (simp sums)
  mean-⊕ f g (e ∷ l) = ap₂ ◌⊕◌ (weigh-⊕ (w e) (f e) (g e)) (mean-⊕ f g l) ∙ simp sums

  pub mean_pos : (n : E → ℕ) (l : List E) → mean w (λ e. num (pos (n e))) l ≡ num (pos (sum (λ e. w e * n e) l))
  unfolding mean sum
  mean_pos n [] = refl
  mean_pos n (e ∷ l) = ap₂ ◌⊕◌ (weigh_pos (w e) (n e)) (mean_pos n l) ∙ pos-⊕ _ _

  pub mean_has : (f : E → Total) (l : List E) → Has (mean w f l) → (e : E) → Memᴰ e l → 0 < w e → Has (f e)
  unfolding mean
  mean_has f [] a e m p = absurd (Memᴰ.not-nil m)
  mean_has f (d ∷ l) a e m p = ⊎_elim (λ i. rw i (has_weigh (w d) (f d) (rw i at p) (has_left _ (mean w f l) a)))
      (λ m. mean_has f l (has_right (weigh (w d) (f d)) _ a) e m p) (Memᴰ.cases_cons m)

  -- a mean is none only where something of weight above 0 is
  pub mean_none : (f : E → Total) (l : List E) → mean w f l ≡ none → (e : E) × Memᴰ e l × (0 < w e) × (f e ≡ none)
  unfolding mean
  mean_none f [] q = absurd (has_not_none _ tt q)
  mean_none f (d ∷ l) q = ⊎_elim
      (λ z. let (p, n) = weigh_is_none (w d) (f d) z in (d, Memᴰ.head refl, p, n))
      (λ z. let (e, m, p, n) = mean_none f l z in (e, Memᴰ.tail m, p, n))
      (one_none (weigh (w d) (f d)) (mean w f l) q)

  pub has_mean : (f : E → Total) (l : List E) → ((e : E) → Memᴰ e l → 0 < w e → Has (f e)) → Has (mean w f l)
  has_mean f l h = by_has (mean w f l) (λ q. let (e, m, p, n) = mean_none f l q in absurd (has_not_none (f e) (h e m p) n)) (λ p. p)

  pub mean_weigh : (c : ℕ) (f : E → Total) (l : List E) → mean w (λ e. weigh c (f e)) l ≡ weigh c (mean w f l)
  unfolding mean
  mean_weigh c f [] = sym (weigh_nothing c)
  mean_weigh c f (e ∷ l) = ap₂ ◌⊕◌ (weigh_swap (w e) c (f e)) (mean_weigh c f l) ∙ sym (weigh-⊕ c _ _)

-- ---- sums

module _ {E : Type 0} (w : E → ℕ) where
  -- a weighed sum is 0 only where all of weight above 0 is
  pub sum_zero : (n : E → ℕ) (l : List E) → sum (λ e. w e * n e) l ≡ 0 → (e : E) → Memᴰ e l → 0 < w e → n e ≡ 0
  unfolding sum
  sum_zero n [] q e m p = absurd (Memᴰ.not-nil m)
  sum_zero n (d ∷ l) q e m p = ⊎_elim (λ i. rw i (zero_factor (w d) (n d) (rw i at p) (omega arith))) (λ m. sum_zero n l (omega arith) e m p) (Memᴰ.cases_cons m)
    where
      zero_factor : (w n : ℕ) → 0 < w → w * n ≡ 0 → n ≡ 0
      zero_factor w zero p q = refl
      zero_factor zero (suc n) p q = absurd (omega arith)
      zero_factor (suc w) (suc n) p q = absurd (omega arith)

  pub sum_most : (n : E → ℕ) (k q : ℕ) (l : List E) → ((e : E) → Memᴰ e l → 0 < w e → q * n e ≤ k) → q * sum (λ e. w e * n e) l ≤ sum w l * k
  unfolding sum
  sum_most n k q [] h = omega arith
  sum_most n k q (e ∷ l) h = most (w e) (n e) (sum (λ e. w e * n e) l) (sum w l) (h e (Memᴰ.head refl)) (sum_most n k q l (λ d m. h d (Memᴰ.tail m)))
    where
      most : (w n a b : ℕ) → (0 < w → q * n ≤ k) → q * a ≤ b * k → q * (w * n + a) ≤ (w + b) * k
      most zero n a b h i = omega arith
      most (suc w) n a b h i = omega (arith, mul-le-mul_left (suc w) (h (omega arith)))
