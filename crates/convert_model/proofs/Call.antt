-- The call: refused by the model's own rules, by what does not fit, by a short buffer, or written.
use mathlib.Core.Path.{◌≡◌, refl, sym, ap, ◌∙◌}
use mathlib.Core.Bool.{Bool, true, false, not}
use mathlib.Core.List.{List}
use Prim.Native.Nat.{ℕ, ◌≤◌, ◌<◌}
use native.Mathlib.Omega.{arith}
use borrow.Author.Tests.{eq-eqb, ne_eqb, lt-ltb, le-ltb}
use lib.Dec.{eqb, ltb, nltb→le}
use lib.ListN.{length}
use Rattle.whole.specs.Cases.{if, by_test}
use Rattle.theory.specs.Form.{Form, old_form, new_form, levels_in, actions_in, bytes_in}
use Rattle.theory.specs.Command.{byte_at, action_at}
use Rattle.theory.specs.Verdict.{Site, Verdict, refusal, verdict_in, or}
use Rattle.theory.specs.Load.{site_in}
use Rattle.theory.specs.Listing.{ListingOut}
use Rattle.text_decimal.specs.Put.{PutAt}
use Rattle.model.specs.declared.Verdict.{Verdict as CodeVerdict}
use Rattle.model.specs.Answers.{shown}
use Rattle.convert_model.specs.declared.Converted.{Converted}
use Rattle.convert_forms.specs.Forms.{model_as}
use Rattle.convert_model.specs.Conversion.{own_refusal, too_large, unfit, conversion_refusal, conversion}
use Rattle.convert_model.specs.Statements.{refused_conversion, wrote}
use Rattle.convert_model.specs.Written.{outcome_as}

-- ---- the model's own

pub own_long : (F : Form) (B : List ℕ) → bytes_in F < length B → refusal 10 0 ≡ own_refusal F B
unfolding own_refusal
own_long F B h = sym (ap (λ (b : Bool). if b (refusal 10 0) (verdict_in F B)) (lt-ltb _ _ h))

pub own_short : (F : Form) (B : List ℕ) → length B ≤ bytes_in F → verdict_in F B ≡ own_refusal F B
unfolding own_refusal
own_short F B h = sym (ap (λ (b : Bool). if b (refusal 10 0) (verdict_in F B)) (le-ltb _ _ h))

-- a model that is not refused has no more bytes than its form allows
pub own_bytes : (F : Form) (B : List ℕ) (v : CodeVerdict) → shown v ≡ own_refusal F B → v.number ≡ 0 → length B ≤ bytes_in F
unfolding own_refusal
own_bytes F B v e z = by_test (ltb (bytes_in F) (length B)) (λ b. (if b (refusal 10 0) (verdict_in F B)).number ≡ 0 → length B ≤ bytes_in F)
    (λ _ y. absurd (let x : ◌≡◌ {A = ℕ} 10 0 = y in omega arith)) (λ t _. nltb→le (bytes_in F) (length B) t) (sym (ap (λ (o : Verdict). o.number) e) ∙ z)

pub form_most : (F : Form) → bytes_in F ≤ 262144
form_most old_form = omega arith
form_most new_form = omega arith

-- ---- what does not fit

module _ (G : Form) (S : Site) (size : ℕ) where
  pub levels_above : levels_in G < S.levels → true ≡ too_large G S size
  unfolding too_large
  levels_above h = sym (ap (λ (b : Bool). or b (or (ltb (actions_in G) S.actions) (ltb (bytes_in G) size))) (lt-ltb _ _ h))

  pub actions_above : S.levels ≤ levels_in G → actions_in G < S.actions → true ≡ too_large G S size
  unfolding too_large
  actions_above k h = sym ((λ i. or (le-ltb (levels_in G) S.levels k i) (or (ltb (actions_in G) S.actions) (ltb (bytes_in G) size)))
      ∙ ap (λ (b : Bool). or b (ltb (bytes_in G) size)) (lt-ltb _ _ h))

  pub bytes_above : S.levels ≤ levels_in G → S.actions ≤ actions_in G → ltb (bytes_in G) size ≡ too_large G S size
  unfolding too_large
  bytes_above k h = sym ((λ i. or (le-ltb (levels_in G) S.levels k i) (or (ltb (actions_in G) S.actions) (ltb (bytes_in G) size)))
      ∙ ap (λ (b : Bool). or b (ltb (bytes_in G) size)) (le-ltb _ _ h))

-- ---- the call

module _ (F G : Form) (B buffer : List ℕ) (v : CodeVerdict) (e : shown v ≡ own_refusal F B) where
  abbrev C : List ℕ
  C = model_as F G B

  abbrev left_by : Verdict → ListingOut
  left_by o = if (eqb o.number 0) (wrote buffer C) (refused_conversion buffer o.number o.place)

  abbrev behind_own : Bool → Bool → Verdict
  behind_own a b = if a (refusal 20 0) (if b (refusal 17 0) (refusal 0 0))

  abbrev judged : Verdict → Bool → Bool → Bool → Verdict
  judged o z a b = if (not z) o (behind_own a b)

  pub call_refused : (v.number ≡ 0 → ⊥) → refused_conversion buffer v.number v.place ≡ conversion F G B buffer
  unfolding conversion conversion_refusal
  call_refused h = sym (ap (λ (o : Verdict). left_by (judged o (eqb o.number 0) (unfit F G B (length C)) (ltb (length buffer) (length C)))) (sym e)
      ∙ ap (λ (b : Bool). left_by (judged (shown v) b (unfit F G B (length C)) (ltb (length buffer) (length C)))) (ne_eqb v.number 0 h)
      ∙ ap (λ (b : Bool). if b (wrote buffer C) (refused_conversion buffer v.number v.place)) (ne_eqb v.number 0 h))

  module _ (z : v.number ≡ 0) where
    past_own : (a b : Bool) → unfit F G B (length C) ≡ a → ltb (length buffer) (length C) ≡ b → conversion F G B buffer ≡ left_by (behind_own a b)
    unfolding conversion conversion_refusal
    past_own a b f g =
        (λ i. left_by (judged (own_refusal F B) (eqb (own_refusal F B).number 0) (f i) (g i)))
        ∙ ap (λ (c : Bool). left_by (judged (own_refusal F B) c a b)) (eq-eqb (own_refusal F B).number 0 (sym (ap (λ (o : Verdict). o.number) e) ∙ z))

    module _ (size : ℕ) (s : size ≡ length C) (a : Bool) (f : a ≡ unfit F G B size) where
      large : unfit F G B (length C) ≡ a
      large = sym (f ∙ ap (unfit F G B) s)

      pub call_20 : a ≡ true → refused_conversion buffer 20 0 ≡ conversion F G B buffer
      call_20 t = sym (past_own true (ltb (length buffer) (length C)) (large ∙ t) refl)

      pub call_17 : a ≡ false → length buffer < size → refused_conversion buffer 17 0 ≡ conversion F G B buffer
      call_17 t h = sym (past_own false true (large ∙ t) (lt-ltb (length buffer) (length C) (omega (arith, s))))

      pub call_0 : a ≡ false → size ≤ length buffer → {n : ℕ} {after : List ℕ} → PutAt buffer 0 C n after
          → ◌≡◌ {A = ListingOut} (record { number = 0; place = 0; size = n; buffer = after }) (conversion F G B buffer)
      call_0 t h {n} {after} p =
          let k : n ≡ length C = omega (arith, p.behind) in
          (λ i. record { number = 0; place = 0; size = k i; buffer = p.left i })
          ∙ sym (past_own false false (large ∙ t) (le-ltb (length buffer) (length C) (omega (arith, s))))

-- ---- in the code's terms

module _ (F G : Form) (B : List ℕ) (size l m n a : ℕ) (p : l ≡ levels_in G) (q : m ≡ byte_at B 1) where
  pub large_levels : l < m → true ≡ too_large G (site_in F B) size
  unfolding site_in
  large_levels h = levels_above G (site_in F B) size (omega (arith, p, q))

  module _ (h : m ≤ l) (r : n ≡ actions_in G) (s : a ≡ action_at F B 3) where
    pub large_actions : n < a → true ≡ too_large G (site_in F B) size
    unfolding site_in
    large_actions k = actions_above G (site_in F B) size (omega (arith, p, q)) (omega (arith, r, s))

    pub large_bytes : a ≤ n → (b : ℕ) → b ≡ bytes_in G → ltb b size ≡ too_large G (site_in F B) size
    unfolding site_in
    large_bytes k b e = ap (λ (x : ℕ). ltb x size) e ∙ bytes_above G (site_in F B) size (omega (arith, p, q)) (omega (arith, r, s))

pub refused_as : (r : Converted) (k p : ℕ) (buffer : List ℕ) → (r.number ≡ k) × (r.place ≡ p) × (r.size ≡ 0) → outcome_as r buffer ≡ refused_conversion buffer k p
refused_as r k p buffer e = λ i. record { number = e.0 i; place = e.1 i; size = e.2 i; buffer = buffer }
