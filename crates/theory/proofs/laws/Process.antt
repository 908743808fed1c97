-- Laws of processes: what policies lose, which expect the optimum, where the optimum is none.
use Rattle.std.specs.Prelude.{◌≡◌, ◌↔◌, ◌⊎◌, pos}
use Rattle.std.proofs.Math.Path.{refl, sym, ap}
use Rattle.std.proofs.Common.{◌∙◌, ⊎_elim}
use mathlib.Core.List.{◌∷◌, Memᴰ}
use Prim.Native.Nat.{ℕ, zero, suc, ◌+◌, ◌*◌, ◌<◌}
use native.Mathlib.Omega.{arith}
use Rattle.theory.specs.Total.{Total, num, none, ◌⊑◌, ◌⊏◌, Has, ◌⊕◌, mean, Lowest}
use Rattle.theory.specs.Process.{Process, Action, total, optimum, lowest_best, Policy, expected, Reached, start, move, Stopped, Unbettered, Sound}
use Rattle.theory.specs.Loss.{sum, shortfall, loss}
use Rattle.theory.proofs.laws.Total.{⊑_trans, ⊑-antisym, ⊑-of_eq, none_below, by_has, has_not_none, has_above, has_left, has_right, has-⊕, sums, ⊕_pos, ⊕_assoc, ⊕_more, ⊕_same, one_none, excess_adds, excess_self}
use Rattle.theory.proofs.laws.Lists.{greatest_above, first_best_is, first_best_in, first_best_lowest, mean_ext, mean-⊕, mean_pos, mean_has, mean_none, has_mean, sum_zero, sum_most}

module _ {S A E : Type 0} (P : Process S A E) where
  pub total_ext : (f g : S → Total) (h : ℕ) (a : A) (s : S) → ((e : E) → Memᴰ e P.settings → 0 < P.weight a s e → f (P.next a s e) ≡ g (P.next a s e))
      → total P f h a s ≡ total P g h a s
  unfolding total
  total_ext f g h a s q = ap (λ z. P.reward h a s ⊕ z) (mean_ext (P.weight a s) (λ e. f (P.next a s e)) (λ e. g (P.next a s e)) P.settings q)

  -- no action's total exceeds the optimum
  pub total_below : (h : ℕ) (s : S) (a : A) → Action P a → total P (optimum P h) h a s ⊑ optimum P (suc h) s
  unfolding optimum
  total_below h s a i = greatest_above (λ a. total P (optimum P h) h a s) P.first P.others a i

  -- ---- the lowest of the best actions

  pub lowest_best_action : (h : ℕ) (s : S) → Action P (lowest_best P h s)
  unfolding lowest_best
  lowest_best_action zero s = Memᴰ.head refl
  lowest_best_action (suc h) s = first_best_in (λ a. total P (optimum P h) h a s) P.first P.others

  pub lowest_best_total : (h : ℕ) (s : S) → optimum P (suc h) s ≡ total P (optimum P h) h (lowest_best P (suc h) s) s
  unfolding lowest_best optimum
  lowest_best_total h s = first_best_is (λ a. total P (optimum P h) h a s) P.first P.others

  pub lowest_best_lowest : (h : ℕ) (s : S) → Lowest (λ a. total P (optimum P h) h a s) (P.first ∷ P.others) (lowest_best P (suc h) s)
  unfolding lowest_best
  lowest_best_lowest h s = first_best_lowest (λ a. total P (optimum P h) h a s) P.first P.others

  -- an action is unbettered exactly where its total is the optimum
  pub unbettered_total : (h : ℕ) (s : S) (a : A) → Action P a → Unbettered P h s a ↔ (total P (optimum P h) h a s ≡ optimum P (suc h) s)
  unbettered_total h s a i = (
    λ u. ⊑-antisym _ _ (total_below h s a i) (⊑_trans _ _ _ (⊑-of_eq _ _ (lowest_best_total h s)) (u (lowest_best P (suc h) s) (lowest_best_action (suc h) s))),
    λ q b j. ⊑_trans _ _ _ (total_below h s b j) (⊑-of_eq _ _ (sym q)),
  )

  -- the policy that takes the lowest of the best actions
  abbrev pub plan : Policy P
  plan = record { choice = lowest_best P; allowed = lowest_best_action }

  pub plan_best : (h : ℕ) (s : S) → expected P plan h s ≡ optimum P h s
  unfolding expected optimum
  plan_best zero s = refl
  plan_best (suc h) s = total_ext (expected P plan h) (optimum P h) h (lowest_best P (suc h) s) s (λ e _ _. plan_best h _) ∙ sym (lowest_best_total h s)

  -- ---- what is reached

  module _ (π : Policy P) where
    -- the action that it picks, h + 1 steps left
    abbrev pick : ℕ → S → A
    pick h s = π.choice (suc h) s

    -- it holds wherever it goes next
    abbrev Onward : (S → Type 0) → ℕ → S → Type 0
    Onward Q h s = (e : E) → Memᴰ e P.settings → 0 < P.weight (pick h s) s e → Q (P.next (pick h s) s e)

    -- one more step at the front
    sooner : {h : ℕ} {s : S} (e : E) → Memᴰ e P.settings → 0 < P.weight (pick h s) s e
        → {g : ℕ} {r : S} → Reached P π h (P.next (pick h s) s e) g r → Reached P π (suc h) s g r
    sooner e i p start = move e start i p
    sooner e i p (move d r j q) = move d (sooner e i p r) j q

    module _ (Q : ℕ → S → Type 0) where
      -- what follows from L here and from itself onward follows from L wherever it is reached
      pub gathered : (L : ℕ → S → Type 0) → ((s : S) → Q zero s) → ((h : ℕ) (s : S) → L h s → Onward (Q h) h s → Q (suc h) s)
          → (h : ℕ) (s : S) → ((g : ℕ) (r : S) → Reached P π h s (suc g) r → L g r) → Q h s
      gathered L base step zero s all = base s
      gathered L base step (suc h) s all = step h s (all h s start) (λ e i p. gathered L base step h _ (λ g r w. all g r (sooner e i p w)))

      -- what holds onward from where it holds, it holds wherever it is reached
      pub spread : ((h : ℕ) (s : S) → Q (suc h) s → Onward (Q h) h s) → (h : ℕ) (s : S) → Q h s → (g : ℕ) (r : S) → Reached P π h s g r → Q g r
      spread step h s q g r start = q
      spread step h s q g r (move {g = k} {r = t} e w i p) = step k t (spread step h s q (suc k) t w) e i p

    -- ---- what it loses

    -- what it loses onward, as a sum over settings
    abbrev lost : ℕ → S → ℕ
    lost h s = sum (λ e. P.weight (pick h s) s e * loss P π h (P.next (pick h s) s e)) P.settings

    expected_onward : (h : ℕ) (s : S) → Has (expected P π (suc h) s) → Onward (λ r. Has (expected P π h r)) h s
    unfolding expected total
    expected_onward h s p = mean_has (P.weight (pick h s) s) (λ e. expected P π h (P.next (pick h s) s e)) P.settings (has_right (P.reward h (pick h s) s) _ p)

    lost_onward : (h : ℕ) (s : S) → Onward (λ r. expected P π h r ⊕ num (pos (loss P π h r)) ≡ optimum P h r) h s
        → expected P π (suc h) s ⊕ num (pos (lost h s)) ≡ total P (optimum P h) h (pick h s) s
    unfolding expected total
    lost_onward h s q =
        let w = P.weight (pick h s) s in
        let n = P.next (pick h s) s in
        ⊕_assoc _ _ _ ∙ ap (λ z. P.reward h (pick h s) s ⊕ z)
        (ap (λ z. mean w (λ e. expected P π h (n e)) P.settings ⊕ z) (sym (mean_pos w (λ e. loss P π h (n e)) P.settings))
        ∙ sym (mean-⊕ w (λ e. expected P π h (n e)) (λ e. num (pos (loss P π h (n e)))) P.settings)
        ∙ mean_ext w (λ e. expected P π h (n e) ⊕ num (pos (loss P π h (n e)))) (λ e. optimum P h (n e)) P.settings q)

    short_here : (h : ℕ) (s : S) → Has (total P (optimum P h) h (pick h s) s)
        → total P (optimum P h) h (pick h s) s ⊕ num (pos (shortfall P h s (pick h s))) ≡ optimum P (suc h) s
    unfolding shortfall
    short_here h s p = excess_adds _ _ (total_below h s (pick h s) (π.allowed (suc h) s)) p

    loss_parts : (h : ℕ) (s : S) → loss P π (suc h) s ≡ lost h s + shortfall P h s (pick h s)
    unfolding loss
    loss_parts h s = omega arith

    -- a total that it expects is the optimum less its loss
    pub loses : (h : ℕ) (s : S) → Has (expected P π h s) → expected P π h s ⊕ num (pos (loss P π h s)) ≡ optimum P h s
    loses zero s p = unfold expected optimum loss in (simp sums)
    loses (suc h) s p =
        let t = lost_onward h s (λ e i w. loses h _ (expected_onward h s p e i w)) in
        ap (λ z. expected P π (suc h) s ⊕ num (pos z)) (loss_parts h s) ∙ sym (⊕_pos _ (lost h s) (shortfall P h s (pick h s)))
        ∙ ap (λ z. z ⊕ num (pos (shortfall P h s (pick h s)))) t
        ∙ short_here h s (rw t at (has-⊕ (expected P π (suc h) s) (num (pos (lost h s))) p tt))

    pub expected_below : (h : ℕ) (s : S) → expected P π h s ⊑ optimum P h s
    expected_below h s = by_has (expected P π h s) (λ n. rw n (none_below _)) (λ p. rw (← loses h s p) (⊕_more _ _))

    -- where it has a total, its action's falls short of the optimum by the shortfall at every state that it reaches with a step left
    pub falls_short : (h : ℕ) (s : S) → Has (expected P π h s) → (g : ℕ) (r : S) → Reached P π h s (suc g) r
        → Has (optimum P (suc g) r) × (total P (optimum P g) g (pick g r) r ⊕ num (pos (shortfall P g r (pick g r))) ≡ optimum P (suc g) r)
    falls_short h s p g r w =
        let q = spread (λ h s. Has (expected P π h s)) expected_onward h s p (suc g) r w in
        let t = lost_onward g r (λ e i x. loses g _ (expected_onward g r q e i x)) in
        (has_above _ _ (expected_below (suc g) r) q, short_here g r (rw t at (has-⊕ (expected P π (suc g) r) (num (pos (lost g r))) q tt)))

    -- ---- where it has a total

    end_has : (s : S) → Has (expected P π zero s)
    unfolding expected
    end_has s = tt

    pub stopped : (h : ℕ) (s : S) → expected P π h s ≡ none → Stopped P π h s
    stopped zero s q = absurd (has_not_none _ (end_has s) q)
    stopped (suc h) s q = ⊎_elim (λ z. record { left = h; state = s; reached = start; forbidden = z })
        (λ z. let (e, i, p, n) = mean_none (P.weight (pick h s) s) (λ e. expected P π h (P.next (pick h s) s e)) P.settings z in
        let w = stopped h _ n in record { left = w.left; state = w.state; reached = sooner e i p w.reached; forbidden = w.forbidden })
        (parts h s q)
      where
        parts : (h : ℕ) (s : S) → expected P π (suc h) s ≡ none
            → (P.reward h (pick h s) s ≡ none) ⊎ (mean (P.weight (pick h s) s) (λ e. expected P π h (P.next (pick h s) s e)) P.settings ≡ none)
        parts h s q = one_none _ _ (unfold expected total in q)

    reward_has : (h : ℕ) (s : S) → Has (expected P π (suc h) s) → Has (P.reward h (pick h s) s)
    unfolding expected total
    reward_has h s p = has_left _ _ p

    pub not_stopped : (h : ℕ) (s : S) → Has (expected P π h s) → Stopped P π h s → ⊥
    not_stopped h s p w = has_not_none _
        (reward_has _ _ (spread (λ h s. Has (expected P π h s)) expected_onward h s p (suc w.left) w.state w.reached)) w.forbidden

    -- it has no total exactly where it picks a forbidden action at a state that it reaches
    pub none_where_stopped : (h : ℕ) (s : S) → (expected P π h s ≡ none) ↔ Stopped P π h s
    none_where_stopped h s = (stopped h s, λ w. by_has (expected P π h s) (λ q. q) (λ p. absurd (not_stopped h s p w)))

    -- ---- where it expects the optimum

    abbrev Exact : ℕ → S → Type 0
    Exact h s = (g : ℕ) (r : S) → Reached P π h s (suc g) r → shortfall P g r (pick g r) ≡ 0

    -- it loses nothing exactly where no reached action falls short
    pub lost_nothing : (h : ℕ) (s : S) → (loss P π h s ≡ 0) ↔ Exact h s
    lost_nothing h s = (
      λ q g r w. short g r (spread (λ h s. loss P π h s ≡ 0) onward h s q (suc g) r w),
      gathered (λ h s. loss P π h s ≡ 0) (λ g r. shortfall P g r (pick g r) ≡ 0) (λ s. unfold loss in refl) back h s,
    )
      where
        short : (h : ℕ) (s : S) → loss P π (suc h) s ≡ 0 → shortfall P h s (pick h s) ≡ 0
        short h s q = omega (arith, loss_parts h s)

        onward : (h : ℕ) (s : S) → loss P π (suc h) s ≡ 0 → Onward (λ r. loss P π h r ≡ 0) h s
        onward h s q = sum_zero (P.weight (pick h s) s) (λ e. loss P π h (P.next (pick h s) s e)) P.settings (omega (arith, loss_parts h s))

        back : (h : ℕ) (s : S) → shortfall P h s (pick h s) ≡ 0 → Onward (λ r. loss P π h r ≡ 0) h s → loss P π (suc h) s ≡ 0
        back h s q all = omega (
          arith,
          loss_parts h s,
          sum_most (P.weight (pick h s) s) (λ e. loss P π h (P.next (pick h s) s e)) 0 1 P.settings (λ e i p. omega (arith, all e i p)),
        )

    pub exact_expected : (h : ℕ) (s : S) → Has (expected P π h s) → (expected P π h s ≡ optimum P h s) ↔ Exact h s
    exact_expected h s p = (
      λ q. (lost_nothing h s).0 (⊕_same (expected P π h s) (loss P π h s) p (q ∙ sym (loses h s p))),
      λ x. simp sums at (rw ((lost_nothing h s).1 x) at (loses h s p)),
    )

    -- a sound policy has a total where there is one
    sound_has : (h : ℕ) (s : S) → Sound P π h s → Has (optimum P h s) → Has (expected P π h s)
    sound_has = gathered (λ h s. Has (optimum P h s) → Has (expected P π h s)) (λ g r. Unbettered P g r (pick g r)) (λ s _. end_has s) step
      where
        step : (h : ℕ) (s : S) → Unbettered P h s (pick h s) → Onward (λ r. Has (optimum P h r) → Has (expected P π h r)) h s
            → Has (optimum P (suc h) s) → Has (expected P π (suc h) s)
        step h s u all p = unfold expected total in (
            let q = rw (← (unbettered_total h s (pick h s) (π.allowed (suc h) s)).0 u) at p in
            has-⊕ _ _ (has_left _ _ q)
            (has_mean (P.weight (pick h s) s) (λ e. expected P π h (P.next (pick h s) s e)) P.settings
            (λ e i w. all e i w (mean_has (P.weight (pick h s) s) (λ e. optimum P h (P.next (pick h s) s e)) P.settings (has_right (P.reward h (pick h s) s) _ q) e i w)))
            )

    -- where it has a total, it is sound exactly where no reached action falls short
    sound_exact : (h : ℕ) (s : S) → Has (expected P π h s) → Exact h s ↔ Sound P π h s
    sound_exact h s p = (
      λ x g r w. (unbettered_total g r (pick g r) (π.allowed (suc g) r)).1 (simp sums at (rw (x g r w) at (falls_short h s p g r w).1)),
      λ u g r w. short g r ((unbettered_total g r (pick g r) (π.allowed (suc g) r)).0 (u g r w)),
    )
      where
        short : (g : ℕ) (r : S) → total P (optimum P g) g (pick g r) r ≡ optimum P (suc g) r → shortfall P g r (pick g r) ≡ 0
        short g r q = unfold shortfall in (rw q (excess_self _))

    -- demand 3
    pub policy_equal : (h : ℕ) (s : S) → Has (optimum P h s) → (expected P π h s ≡ optimum P h s) ↔ Sound P π h s
    policy_equal h s p = (
      λ q. let x = rw (← q) at p in (sound_exact h s x).0 ((exact_expected h s x).0 q),
      λ u. let x = sound_has h s u p in (exact_expected h s x).1 ((sound_exact h s x).1 u),
    )

    pub policy_lower : (h : ℕ) (s : S) → Has (optimum P h s) → (Sound P π h s → ⊥) → expected P π h s ⊏ optimum P h s
    policy_lower h s p n le = n ((policy_equal h s p).0 (⊑-antisym _ _ (expected_below h s) le))

  -- a state has no value exactly where no policy gets through
  pub none_exactly : (h : ℕ) (s : S) → (optimum P h s ≡ none) ↔ ((π : Policy P) → Stopped P π h s)
  none_exactly h s = (
    λ q π. stopped π h s (⊑-antisym _ _ (rw q at (expected_below π h s)) (none_below _)),
    λ all. sym (plan_best h s) ∙ (none_where_stopped plan h s).1 (all plan),
  )
