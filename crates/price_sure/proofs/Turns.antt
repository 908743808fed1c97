-- The pass over the actions: what holds at each turn, and what it comes to.
use mathlib.Core.Path.{◌≡◌, refl, sym, ap, ap₂, ◌∙◌, subst}
use mathlib.Core.Bool.{Bool, true, false}
use mathlib.Core.List.{List}
use Prim.Native.Nat.{ℕ, suc, ◌+◌, ◌-◌, ◌*◌, ◌^◌, ◌≤◌}
use native.Mathlib.Omega.{arith}
use lib.Dec.{ltb, ltb→lt}
use lib.IntN.{ℤ}
use lib.ListN.{length}
use mir.Syntax.{w64}
use mir.Val.{SFits}
use Rattle.whole.specs.Cases.{from_true}
use Rattle.whole.proofs.Signed.{R, back}
use Rattle.theory.specs.Meaning.{State}
use Rattle.theory.specs.Verdict.{or}
use Rattle.theory.specs.Load.{site_at, model}
use Rattle.theory.specs.Plain.{Worth, is, nothing, over, numbered}
use Rattle.theory.proofs.laws.AcceptedModel.{accepted_site}
use Rattle.plain_pass.specs.declared.Point.{Point}
use Rattle.plain_limits.specs.declared.Total.{Total}
use Rattle.plain_limits.specs.declared.Total.TheVariants as total
use Rattle.plain_limits.specs.Totals.{total_of, tried, is_over}
use Rattle.plain_step.specs.PointState.{ModelReady, Spells}
use Rattle.plain_worth.specs.Worths.{ActionWorth}
use Rattle.plain_worth.proofs.Turns.{Tries, tries_start, tries_end, tries_on}
use Rattle.price_change.specs.Sure.{SureOut, exceeds, said, refused_sure, margin, leads, sure_out, sure_at, worth_of}
use Rattle.price_margin.specs.Rivals.{rival}
use Rattle.price_sure.specs.declared.Said.{Said}
use Rattle.price_sure.specs.Answers.{out, answer_of, Priced, SureAt}
use Rattle.price_sure.proofs.Rivals.{Kept, kept_first, kept_on, leads_by}

-- before action a: the best of those before it, and the largest of the others
pub record Contests (B : List ℕ) (h : ℕ) (x : Point) (last : ℕ) (best other : Total) (a : ℕ) : Type 0 where
  pub tries : Tries B h x last best a
  pub kept : (s : State) → Spells (site_at B) x s → is_over (total_of best) ≡ false → Kept (worth_of (model B) h s) (a - 1) (total_of best) (total_of other)

-- what an action's worth is called in the definition
worth_is : (B : List ℕ) (h a : ℕ) (x : Point) (t : Total) → ActionWorth B h a x t → (s : State) → Spells (site_at B) x s → worth_of (model B) h s a ≡ total_of t
unfolding worth_of
worth_is B h a x t Y s p = sym (Y.is s p)

or_no : (b c : Bool) → or b c ≡ false → b ≡ false
or_no true c e = e
or_no false c e = refl

module _ (B : List ℕ) (h : ℕ) (x : Point) (last : ℕ) (e : last ≡ (site_at B).actions) where
  pub contests_start : ModelReady B → (h ≡ 0 → ⊥) → (t : Total) → ActionWorth B h 1 x t → (best : Total) → total_of best ≡ numbered 1 (total_of t) → Contests B h x last best total.None 2
  unfolding total_of
  contests_start ok n t Y best f = record {
    tries = tries_start B h x last e ok n t Y best f;
    kept = λ s p k. subst (λ (w : Worth). Kept (worth_of (model B) h s) 1 w nothing) (sym f) (kept_first (worth_of (model B) h s) (total_of t) (worth_is B h 1 x t Y s p) (ap is_over (sym f) ∙ k));
  }

  module _ (best other : Total) (a : ℕ) (I : Contests B h x last best other a) where
    pub contests_on : {b : Bool} → b ≡ or (is_over (total_of best)) (ltb last a) → b ≡ false → a ≤ last → (t : Total) → ActionWorth B h a x t
        → (other' : Total) → total_of other' ≡ rival (total_of best) (total_of other) (total_of t)
        → (best' : Total) → total_of best' ≡ tried (total_of best) a (total_of t) → Contests B h x last best' other' (a + 1)
    contests_on q k g t Y other' fo best' fb = record { tries = tries_on B h x last e best a I.tries g t Y best' fb; kept = kept }
      where
        one : suc (a - 1) ≡ a
        one = omega (arith, I.tries.low)

        kept : (s : State) → Spells (site_at B) x s → is_over (total_of best') ≡ false → Kept (worth_of (model B) h s) (a + 1 - 1) (total_of best') (total_of other')
        kept s p f =
            let F = worth_of (model B) h s in
            let u : is_over (tried (total_of best) (suc (a - 1)) (total_of t)) ≡ false = ap (λ (n : ℕ). is_over (tried (total_of best) n (total_of t))) one ∙ ap is_over (sym fb) ∙ f in
            let K = kept_on F (a - 1) (total_of best) (total_of other) (I.kept s p (or_no _ _ (sym q ∙ k))) (total_of t) (ap F one ∙ worth_is B h a x t Y s p) u in
            let m : Kept F (a + 1 - 1) (tried (total_of best) (suc (a - 1)) (total_of t)) (rival (total_of best) (total_of other) (total_of t)) = subst
            (λ (n : ℕ). Kept F n (tried (total_of best) (suc (a - 1)) (total_of t)) (rival (total_of best) (total_of other) (total_of t)))
            (let z : suc (a - 1) ≡ a + 1 - 1 = omega (arith, I.tries.low) in z) K in
            subst (λ (w : Worth). Kept F (a + 1 - 1) w (total_of other')) (ap (λ (n : ℕ). tried (total_of best) n (total_of t)) one ∙ sym fb) (subst (Kept F (a + 1 - 1) (tried (total_of best) (suc (a - 1)) (total_of t))) (sym fo) m)

    -- all actions are counted
    module _ (ok : ModelReady B) (c d p : ℕ) (P : Priced B h x d p) where
      worked : {b : Bool} → b ≡ or (is_over (total_of best)) (ltb last a) → b ≡ true → (s : State) → Spells (site_at B) x s → sure_at (model B) h s c ≡ sure_out (leads (model B) h s (margin (model B) h s c)) (total_of best)
      unfolding sure_at
      worked q k s z = ap (sure_out (leads (model B) h s (margin (model B) h s c))) (sym ((tries_end B h x last e best a I.tries q k).is s z))

      margin_is : (s : State) → Spells (site_at B) x s → 2 * h * c * (d * p) ≡ margin (model B) h s c
      unfolding margin
      margin_is s z =
          let o = (accepted_site B ok.accepted).1 in
          ap₂ (λ (m n : ℕ). 2 * h * c * (m * n)) (sym (P.den.is s z)) (P.power ∙ ap₂ (λ (w n : ℕ). w ^ (n * h)) (sym o.same_weights) (sym o.same_conditions))

      count_is : ltb last a ≡ true → a - 1 ≡ suc (length (model B).others)
      count_is n =
          let o : suc (length (model B).others) ≡ (site_at B).actions = (accepted_site B ok.accepted).1.same_actions in
          let u = ltb→lt last a (from_true n) in
          omega (arith, I.tries.high)

      judged : {b : Bool} → b ≡ or (is_over (total_of best)) (ltb last a) → b ≡ true → (s : State) → Spells (site_at B) x s → (w : Worth) → w ≡ total_of best
          → answer_of (2 * h * c * (d * p)) w (total_of other) ≡ sure_out (leads (model B) h s (margin (model B) h s c)) w
      unfolding answer_of sure_out is_over
      judged q k s z (is v i) y =
          let F = worth_of (model B) h s in
          let n : is_over (total_of best) ≡ false = ap is_over (sym y) in
          let l : ltb last a ≡ true = ap (λ (t : Bool). or t (ltb last a)) (sym n) ∙ sym q ∙ k in
          let K = subst (λ (w : Worth). Kept F (suc (length (model B).others)) w (total_of other)) (sym y) (subst (λ (m : ℕ). Kept F m (total_of best) (total_of other)) (count_is l) (I.kept s z n)) in
          ap said (ap (λ (m : ℕ). exceeds m v (total_of other)) (margin_is s z) ∙ sym (leads_by (model B) h s (margin (model B) h s c) v i (total_of other) K))
      judged q k s z nothing y = refl
      judged q k s z over y = refl

      pub contests_end : {b : Bool} → b ≡ or (is_over (total_of best)) (ltb last a) → b ≡ true → (r : Said) → out r ≡ answer_of (2 * h * c * (d * p)) (total_of best) (total_of other) → SureAt B h c x r
      contests_end q k r f = record { is = λ s z. f ∙ judged q k s z (total_of best) refl ∙ sym (worked q k s z) }

-- ---- the answer

module _ (d : ℕ) (best other : Total) {o : SureOut} where
  pub answer_is : (v : ℤ) (a : ℕ) → best ≡ total.Is v a → SFits w64 v → {b : Bool} → b ≡ exceeds d (R v) (total_of other) → o ≡ said b → o ≡ answer_of d (total_of best) (total_of other)
  unfolding answer_of total_of
  answer_is v a e f q k = k ∙ ap said (q ∙ ap (λ (z : ℤ). exceeds d z (total_of other)) (back v f)) ∙ sym (ap (λ (t : Total). answer_of d (total_of t) (total_of other)) e)

  pub answer_none : best ≡ total.None → o ≡ said false → o ≡ answer_of d (total_of best) (total_of other)
  unfolding answer_of total_of
  answer_none e k = k ∙ sym (ap (λ (t : Total). answer_of d (total_of t) (total_of other)) e)

  pub answer_over : best ≡ total.Over → o ≡ refused_sure 11 0 → o ≡ answer_of d (total_of best) (total_of other)
  unfolding answer_of total_of
  answer_over e k = k ∙ sym (ap (λ (t : Total). answer_of d (total_of t) (total_of other)) e)
