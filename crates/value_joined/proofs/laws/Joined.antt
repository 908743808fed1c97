-- Two processes as one: its optimum is the sum of theirs.
use Rattle.std.specs.Prelude.{◌≡◌, ◌↔◌, ◌⊎◌, ℕ, zero, suc, ◌*◌, ◌<◌}
use Rattle.std.proofs.Math.Path.{sym, ap, ap₂}
use Rattle.std.proofs.Common.{◌∙◌, inl, inr}
use Rattle.std.proofs.Math.Logic.{⊎_elim}
use mathlib.Core.List.Memᴰ
use mathlib.Core.List.{List, [], ◌∷◌, map, Memᴰ}
use Rattle.theory.specs.Total.{Total, none, ◌⊕◌, weigh, mean}
use Rattle.theory.specs.Loss.{sum}
use Rattle.theory.specs.Process.{Process, Action, total, optimum, lowest_best}
use Rattle.value_joined.specs.Joined.{pairs, other_pairs, joined}
use Rattle.theory.proofs.laws.Total.{⊑_trans, ⊑-antisym, ⊑-of_eq, sums, weigh_num, weigh_mono, weigh-⊕, weigh_times, weigh_swap, weigh_nothing, weigh_zero, weigh_none, weigh_is_none, one_none, none-⊕, ⊕_comm}
use Rattle.value_joined.proofs.laws.Means.{⊕_mono, ⊕_swap, weigh_plus, mean_times, mean_const, mean_append, mean_map}
use Rattle.theory.proofs.laws.Lists.{mean-⊕, mean_weigh}
use Rattle.theory.proofs.laws.Process.{total_ext, total_below, lowest_best_action, lowest_best_total}

-- ---- pairs

module _ {A B : Type 0} where
  paired_in : (a : A) {b : B} (k : List B) → Memᴰ b k → Memᴰ {A = A × B} (a, b) (map (λ b. (a, b)) k)
  paired_in a [] m = absurd (Memᴰ.not-nil m)
  paired_in a (c ∷ k) m = ⊎_elim (λ i. Memᴰ.head (ap (λ b. (a, b)) i)) (λ i. Memᴰ.tail (paired_in a k i)) (Memᴰ.cases_cons m)

  paired_out : (a : A) (p : A × B) (k : List B) → Memᴰ p (map (λ b. (a, b)) k) → (p.0 ≡ a) × Memᴰ p.1 k
  paired_out a p [] m = absurd (Memᴰ.not-nil m)
  paired_out a p (c ∷ k) m = ⊎_elim (λ i. (ap (λ p. p.0) i, Memᴰ.head (ap (λ p. p.1) i)))
      (λ i. let (q, j) = paired_out a p k i in (q, Memᴰ.tail j)) (Memᴰ.cases_cons m)

  pub pairs_in : {a : A} {b : B} (l : List A) (k : List B) → Memᴰ a l → Memᴰ b k → Memᴰ {A = A × B} (a, b) (pairs l k)
  unfolding pairs
  pairs_in [] k m n = absurd (Memᴰ.not-nil m)
  pairs_in {a} {b} (c ∷ l) k m n = ⊎_elim (λ i. rw i (Memᴰ.append_left (pairs l k) (paired_in c k n)))
      (λ i. Memᴰ.append_right (map (λ b. (c, b)) k) (pairs_in l k i n)) (Memᴰ.cases_cons m)

  pub pairs_out : (p : A × B) (l : List A) (k : List B) → Memᴰ p (pairs l k) → Memᴰ p.0 l × Memᴰ p.1 k
  unfolding pairs
  pairs_out p [] k m = absurd (Memᴰ.not-nil m)
  pairs_out p (c ∷ l) k m = ⊎_elim (λ i. let (q, j) = paired_out c p k i in (Memᴰ.head q, j))
      (λ i. let (n, j) = pairs_out p l k i in (Memᴰ.tail n, j)) (Memᴰ.append_cases (map (λ b. (c, b)) k) m)

-- a mean over pairs of what adds is one over each
module _ {E D : Type 0} (u : E → ℕ) (v : D → ℕ) (f : E → Total) (g : D → Total) where
  row : (e : E) (k : List D) → mean (λ d. u e * v d) (λ d. f e ⊕ g d) k ≡ weigh (sum v k) (weigh (u e) (f e)) ⊕ weigh (u e) (mean v g k)
  row e k = mean_times v (u e) (λ d. f e ⊕ g d) k ∙ ap (weigh (u e)) (mean-⊕ v (λ _. f e) g k ∙ ap (λ z. z ⊕ mean v g k) (mean_const v (f e) k))
      ∙ weigh-⊕ (u e) _ _ ∙ ap (λ z. z ⊕ weigh (u e) (mean v g k)) (weigh_swap (u e) (sum v k) (f e))

  pub pairs_mean : (l : List E) (k : List D)
      → mean (λ p. u p.0 * v p.1) (λ p. f p.0 ⊕ g p.1) (pairs l k) ≡ weigh (sum v k) (mean u f l) ⊕ weigh (sum u l) (mean v g k)
  unfolding pairs mean sum
  pairs_mean [] k = sym (ap₂ ◌⊕◌ (weigh_nothing (sum v k)) (weigh_zero (mean v g k)) ∙ simp sums)
  pairs_mean (e ∷ l) k = mean_append (λ p. u p.0 * v p.1) (λ p. f p.0 ⊕ g p.1) (map (λ d. (e, d)) k) (pairs l k)
      ∙ ap₂ ◌⊕◌ (mean_map (λ p. u p.0 * v p.1) (λ d. (e, d)) (λ p. f p.0 ⊕ g p.1) k ∙ row e k) (pairs_mean l k)
      ∙ ⊕_swap _ _ _ _ ∙ sym (ap₂ ◌⊕◌ (weigh-⊕ (sum v k) _ _) (weigh_plus (u e) (sum u l) (mean v g k)))

-- ---- the joined process

-- the weights of every action and state sum to w
abbrev pub Even : {S A E : Type 0} → Process S A E → ℕ → Type 0
Even {S} {A} P w = (a : A) (s : S) → Action P a → sum (P.weight a s) P.settings ≡ w

-- what totals are compared at grows w-fold with each step left
abbrev pub Scale : ℕ → (ℕ → ℕ) → Type 0
Scale w scale = (h : ℕ) → scale (suc h) ≡ w * scale h

module _ {S A E R B D : Type 0} (P : Process S A E) (Q : Process R B D) (w v : ℕ) (p q : ℕ → ℕ)
    (even : Even P w) (even' : Even Q v) (scaled : Scale v p) (scaled' : Scale w q) where
  abbrev both : Process (S × R) (A × B) (E × D)
  both = joined p q P Q

  action_in : (a : A) (b : B) → Action P a → Action Q b → Action both (a, b)
  action_in a b i j = unfold pairs other_pairs in (pairs_in (P.first ∷ P.others) (Q.first ∷ Q.others) i j)

  action_out : (c : A × B) → Action both c → Action P c.0 × Action Q c.1
  action_out c i = pairs_out c (P.first ∷ P.others) (Q.first ∷ Q.others) (unfold pairs other_pairs in i)

  -- what two sides come to together, h steps left
  abbrev pub together : ℕ → Total → Total → Total
  together h x y = weigh (p h) x ⊕ weigh (q h) y

  total_both : (f : S → Total) (g : R → Total) (h : ℕ) (a : A) (b : B) (s : S) (r : R) → Action P a → Action Q b
      → total both (λ t. together h (f t.0) (g t.1)) h (a, b) (s, r) ≡ together (suc h) (total P f h a s) (total Q g h b r)
  unfolding total
  total_both f g h a b s r i j =
      let m = mean (P.weight a s) (λ e. f (P.next a s e)) P.settings in
      let n = mean (Q.weight b r) (λ e. g (Q.next b r e)) Q.settings in
      ap (λ z. weigh (p (suc h)) (P.reward h a s) ⊕ weigh (q (suc h)) (Q.reward h b r) ⊕ z)
      (pairs_mean (P.weight a s) (Q.weight b r) (λ e. weigh (p h) (f (P.next a s e))) (λ e. weigh (q h) (g (Q.next b r e))) P.settings Q.settings
      ∙ ap₂ ◌⊕◌ (grown v (p h) (p (suc h)) m (scaled h) _ _ (even' b r j) (mean_weigh (P.weight a s) (p h) (λ e. f (P.next a s e)) P.settings))
      (grown w (q h) (q (suc h)) n (scaled' h) _ _ (even a s i) (mean_weigh (Q.weight b r) (q h) (λ e. g (Q.next b r e)) Q.settings)))
      ∙ ⊕_swap _ _ _ _ ∙ sym (ap₂ ◌⊕◌ (weigh-⊕ (p (suc h)) _ m) (weigh-⊕ (q (suc h)) _ n))
    where
      grown : (v k l : ℕ) (m : Total) → l ≡ v * k → (u : ℕ) (x : Total) → u ≡ v → x ≡ weigh k m → weigh u x ≡ weigh l m
      grown v k l m a u x b c = ap₂ weigh b c ∙ sym (weigh_times v k m) ∙ ap (λ z. weigh z m) (sym a)

  pair_from : (h : ℕ) → ((s : S) (r : R) → optimum both h (s, r) ≡ together h (optimum P h s) (optimum Q h r))
      → (a : A) (b : B) (s : S) (r : R) → Action P a → Action Q b
      → total both (optimum both h) h (a, b) (s, r) ≡ together (suc h) (total P (optimum P h) h a s) (total Q (optimum Q h) h b r)
  pair_from h below a b s r i j = total_ext both (optimum both h) (λ t. together h (optimum P h t.0) (optimum Q h t.1)) h (a, b) (s, r) (λ e _ _. below _ _)
      ∙ total_both (optimum P h) (optimum Q h) h a b s r i j

  -- the optimum of the joined process is the sum of theirs, at the common scale
  pub joined_optimum : (h : ℕ) (s : S) (r : R) → optimum both h (s, r) ≡ together h (optimum P h s) (optimum Q h r)
  joined_optimum zero s r = unfold optimum ◌⊕◌ in (sym (ap₂ ◌⊕◌ (weigh_num (p 0) (P.end s)) (weigh_num (q 0) (Q.end r))))
  joined_optimum (suc h) s r =
      let below = joined_optimum h in
      let c = lowest_best both (suc h) (s, r) in
      let (i, j) = action_out c (lowest_best_action both (suc h) (s, r)) in
      ⊑-antisym _ _
      (⊑_trans _ _ _ (⊑-of_eq _ _ (lowest_best_total both h (s, r) ∙ pair_from h below c.0 c.1 s r i j))
      (⊕_mono _ _ _ _ (weigh_mono (p (suc h)) _ _ (total_below P h s c.0 i)) (weigh_mono (q (suc h)) _ _ (total_below Q h r c.1 j))))
      (⊑_trans _ _ _ (⊑-of_eq _ _ (reach h below s r)) (total_below both h (s, r) (lowest_best P (suc h) s, lowest_best Q (suc h) r) (best_in h s r)))
    where
      best_in : (h : ℕ) (s : S) (r : R) → Action both (lowest_best P (suc h) s, lowest_best Q (suc h) r)
      best_in h s r = action_in _ _ (lowest_best_action P (suc h) s) (lowest_best_action Q (suc h) r)

      reach : (h : ℕ) → ((s : S) (r : R) → optimum both h (s, r) ≡ together h (optimum P h s) (optimum Q h r)) → (s : S) (r : R)
          → together (suc h) (optimum P (suc h) s) (optimum Q (suc h) r) ≡ total both (optimum both h) h (lowest_best P (suc h) s, lowest_best Q (suc h) r) (s, r)
      reach h below s r = ap₂ (together (suc h)) (lowest_best_total P h s) (lowest_best_total Q h r)
          ∙ sym (pair_from h below _ _ s r (lowest_best_action P (suc h) s) (lowest_best_action Q (suc h) r))

  -- the pair of lowest best actions is an action, and reaches it
  pub joined_best : (h : ℕ) (s : S) (r : R) → Action both (lowest_best P (suc h) s, lowest_best Q (suc h) r)
      × (total both (optimum both h) h (lowest_best P (suc h) s, lowest_best Q (suc h) r) (s, r) ≡ optimum both (suc h) (s, r))
  joined_best h s r = (
    action_in _ _ (lowest_best_action P (suc h) s) (lowest_best_action Q (suc h) r),
    pair_from h (joined_optimum h) _ _ s r (lowest_best_action P (suc h) s) (lowest_best_action Q (suc h) r)
        ∙ sym (joined_optimum (suc h) s r ∙ ap₂ (together (suc h)) (lowest_best_total P h s) (lowest_best_total Q h r)),
  )

  -- none exactly where one side is
  pub joined_none : (h : ℕ) (s : S) (r : R) → 0 < p h → 0 < q h → (optimum both h (s, r) ≡ none) ↔ ((optimum P h s ≡ none) ⊎ (optimum Q h r ≡ none))
  joined_none h s r i j = (
    λ z. ⊎_elim (λ x. inl (weigh_is_none (p h) _ x).1) (λ y. inr (weigh_is_none (q h) _ y).1) (one_none _ _ (sym (joined_optimum h s r) ∙ z)),
    λ z. joined_optimum h s r ∙ ⊎_elim (λ x. ap (λ z. weigh (p h) z ⊕ weigh (q h) (optimum Q h r)) x ∙ ap (λ z. z ⊕ weigh (q h) (optimum Q h r)) (weigh_none (p h) i) ∙ none-⊕ _)
        (λ y. ap (λ z. weigh (p h) (optimum P h s) ⊕ weigh (q h) z) y ∙ ap (λ z. weigh (p h) (optimum P h s) ⊕ z) (weigh_none (q h) j) ∙ ⊕_comm _ _ ∙ none-⊕ _) z,
  )
