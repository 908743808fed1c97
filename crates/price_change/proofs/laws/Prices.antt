-- Two processes that differ in their rewards only: how far optimum and totals move, and when the same action stays best.
use Rattle.std.specs.Prelude.{◌≡◌, pos}
use Rattle.std.proofs.Math.Path.{ap}
use Rattle.std.proofs.Common.{◌∙◌, inl, inr, ⊎_elim, arith}
use Prim.Native.Nat.{ℕ, zero, suc, ◌+◌, ◌*◌}
use Rattle.theory.specs.Total.{Total, num, ◌⊑◌, ◌⊕◌, weigh, mean}
use Rattle.theory.specs.Process.{Process, Action, total, optimum, lowest_best}
use Rattle.theory.proofs.laws.Total.{⊑_refl, ⊑_trans, ⊑-of_eq, has_above, has_left, pos-⊕, ⊕_pos, ⊕_more, weigh_mono, weigh-⊕, weigh_pos}
use Rattle.theory.proofs.laws.Lists.{mean-⊕, mean_pos}
use Rattle.theory.proofs.laws.Process.{total_below, lowest_best_action, lowest_best_total}
use Rattle.price_change.specs.Prices.{Even, Kept, Scale, Near, AlikeButRewards, Clear}
use Rattle.price_change.proofs.laws.Totals.{⊕_swap, ⊕_mono, ⊕_cancel, ⊕_grows, mean_mono, sum_times}

-- x is at most y and d more
abbrev Under : ℕ → Total → Total → Type 0
Under d x y = x ⊑ (y ⊕ num (pos d))

under_weigh : (k d : ℕ) (x y : Total) → Under d x y → Under (d * k) (weigh k x) (weigh k y)
under_weigh k d x y u = rw times at (weigh_mono k x (y ⊕ num (pos d)) u)
  where
    times : weigh k (y ⊕ num (pos d)) ≡ weigh k y ⊕ num (pos (d * k))
    times = weigh-⊕ k y _ ∙ ap (λ z. weigh k y ⊕ z) (weigh_pos k d ∙ ap (λ z. num (pos z)) swap)
      where
        swap : k * d ≡ d * k
        swap = omega arith

-- what is d apart is k times that apart k times over
pub near_weigh : (k d : ℕ) (x y : Total) → Near d x y → Near (d * k) (weigh k x) (weigh k y)
near_weigh k d x y n = (under_weigh k d x y n.0, under_weigh k d y x n.1)

-- who leads by more than 2 d still leads when both move by d
closer : (d : ℕ) (x x' y y' : Total) → Under d x x' → Under d y' y → (y ⊕ num (pos (suc (2 * d)))) ⊑ x → (y' ⊕ num (pos 1)) ⊑ x'
closer d x x' y y' p q k = ⊕_cancel _ _ (2 * d) (⊑_trans _ _ _ (⊕_mono _ _ _ _ (⊕_mono _ _ _ _ q (⊑_refl (num (pos 1)))) (⊑_refl (num (pos (2 * d)))))
    (⊑_trans _ _ _ (⊑-of_eq _ _ front) (⊑_trans _ _ _ (⊕_mono _ _ _ _ (⊑_trans _ _ _ k p) (⊑_refl (num (pos d)))) (⊑-of_eq _ _ back))))
  where
    front : y ⊕ num (pos d) ⊕ num (pos 1) ⊕ num (pos (2 * d)) ≡ y ⊕ num (pos (suc (2 * d))) ⊕ num (pos d)
    front = simp ⊕_pos (ap (λ z. y ⊕ num (pos z)) (omega arith))

    back : x' ⊕ num (pos d) ⊕ num (pos d) ≡ x' ⊕ num (pos (2 * d))
    back = ⊕_pos _ _ _ ∙ ap (λ z. x' ⊕ num (pos z)) (omega arith)

module _ {S A E : Type 0} (P : Process S A E) where
  -- the same process with other rewards
  abbrev pub with_rewards : (ℕ → A → S → Total) → Process S A E
  with_rewards r = record { first = P.first; others = P.others; settings = P.settings; reward = r; weight = P.weight; next = P.next; end = P.end }

  -- which are all that are alike
  pub alike_is : (Q : Process S A E) → AlikeButRewards P Q → with_rewards Q.reward ≡ Q
  alike_is Q k = λ i. record {
    first = k.same_first i;
    others = k.same_others i;
    settings = k.same_settings i;
    reward = Q.reward;
    weight = λ a s e. k.same_weight a s e i;
    next = λ a s e. k.same_next a s e i;
    end = λ s. k.same_end s i;
  }

module _ {S A E : Type 0} (w : ℕ) (scale : ℕ → ℕ) (scaled : Scale w scale) (unit : S → ℕ) where
  module _ (P : Process S A E) (reward : ℕ → A → S → Total) (even : Even P w) (kept : Kept P unit)
      (under : (h : ℕ) (a : A) (s : S) → Action P a → Under (unit s * scale (suc h)) (reward h a s) (P.reward h a s)) where
    abbrev Q : Process S A E
    Q = with_rewards P reward

    total_under : (h : ℕ) → ((s : S) → Under (h * (unit s * scale h)) (optimum Q h s) (optimum P h s))
        → (a : A) (s : S) → Action P a → Under (suc h * (unit s * scale (suc h))) (total Q (optimum Q h) h a s) (total P (optimum P h) h a s)
    unfolding total
    total_under h below a s i =
        let u = P.weight a s in
        let n = P.next a s in
        let d = h * (unit s * scale h) in
        let m = mean_mono u (λ x. optimum Q h (n x)) (λ x. optimum P h (n x) ⊕ num (pos d)) P.settings (λ x. rw (kept a s x) at (below (n x))) in
        let k : mean u (λ x. optimum P h (n x) ⊕ num (pos d)) P.settings ≡ mean u (λ x. optimum P h (n x)) P.settings ⊕ num (pos (w * d)) =
        mean-⊕ u (λ x. optimum P h (n x)) (λ _. num (pos d)) P.settings
        ∙ ap (λ z. mean u (λ x. optimum P h (n x)) P.settings ⊕ z) (mean_pos u (λ _. d) P.settings ∙ ap (λ z. num (pos z)) (sum_times u d P.settings ∙ ap (λ z. z * d) (even a s i))) in
        ⊑_trans _ _ _ (⊕_mono _ _ _ _ (under h a s i) (rw k at m))
        (⊑-of_eq _ _ (⊕_swap _ _ _ _ ∙ ap (λ z. P.reward h a s ⊕ mean u (λ x. optimum P h (n x)) P.settings ⊕ z) (pos-⊕ _ _ ∙ ap (λ z. num (pos z)) sizes)))
      where
        sizes : unit s * scale (suc h) + w * (h * (unit s * scale h)) ≡ suc h * (unit s * scale (suc h))
        sizes = rw (scaled h) (omega arith)

    optimum_under : (h : ℕ) (s : S) → Under (h * (unit s * scale h)) (optimum Q h s) (optimum P h s)
    optimum_under zero s = unfold optimum in (⊕_more _ _)
    optimum_under (suc h) s = rw (lowest_best_total Q h s) (⊑_trans _ _ _
        (total_under h (optimum_under h) (lowest_best Q (suc h) s) s (lowest_best_action Q (suc h) s))
        (⊕_mono _ _ _ _ (total_below P h s (lowest_best Q (suc h) s) (lowest_best_action Q (suc h) s)) (⊑_refl _)))

  module _ (P : Process S A E) (reward : ℕ → A → S → Total) (even : Even P w) (kept : Kept P unit)
      (near : (h : ℕ) (a : A) (s : S) → Action P a → Near (unit s * scale (suc h)) (P.reward h a s) (reward h a s)) where
    abbrev R : Process S A E
    R = with_rewards P reward

    pub near_optimum : (h : ℕ) (s : S) → Near (h * (unit s * scale h)) (optimum P h s) (optimum R h s)
    near_optimum h s = (optimum_under R P.reward even kept (λ h a s i. (near h a s i).0) h s, optimum_under P reward even kept (λ h a s i. (near h a s i).1) h s)

    pub near_total : (h : ℕ) (a : A) (s : S) → Action P a → Near (suc h * (unit s * scale (suc h))) (total P (optimum P h) h a s) (total R (optimum R h) h a s)
    near_total h a s i = (
      total_under R P.reward even kept (λ h a s i. (near h a s i).0) h (λ s. (near_optimum h s).0) a s i,
      total_under P reward even kept (λ h a s i. (near h a s i).1) h (λ s. (near_optimum h s).1) a s i,
    )

    -- what is clear by more than twice as far as totals move stays clear
    pub stays_clear : (h : ℕ) (s : S) (a : A) → Action P a → Clear P (2 * (suc h * (unit s * scale (suc h)))) h s a → Clear R 0 h s a
    stays_clear h s a i c = record {
      has = has_left _ (num (pos (suc h * (unit s * scale (suc h))))) (has_above _ _ (near_total h a s i).0 c.has);
      apart = λ b j. ⊎_elim (λ q. inl q) (λ k. inr (closer _ _ _ _ _ (near_total h a s i).0 (near_total h b s j).1 k)) (c.apart b j);
    }

-- a clear action is the lowest best
pub clear_best : {S A E : Type 0} (P : Process S A E) (d h : ℕ) (s : S) (a : A) → Action P a → Clear P d h s a → lowest_best P (suc h) s ≡ a
clear_best P d h s a i c = ⊎_elim (λ q. q) (λ k. absurd (⊕_grows _ d (has_above _ _ up c.has) (⊑_trans _ _ _ k up))) (c.apart (lowest_best P (suc h) s) (lowest_best_action P (suc h) s))
  where
    up : total P (optimum P h) h a s ⊑ total P (optimum P h) h (lowest_best P (suc h) s) s
    up = rw (lowest_best_total P h s) at (total_below P h s a i)
