-- Every outcome is one row, and each row is the outcome.
use Rattle.std.specs.Prelude.{◌≡◌, Bool, true, false, not, ◌&&◌, ℕ, ◌≤◌, ltb, length}
use Rattle.std.proofs.Math.Path.{refl, ap, subst}
use Rattle.std.proofs.Common.{sym, ◌∙◌, ⊎_elim, arith, T_not, eqb→eq, ltb→lt, lt→ltb, nltb→le}
use mathlib.Core.List.Memᴰ
use mathlib.Core.List.{List, [], ◌∷◌, Memᴰ}
use Rattle.std.proofs.Math.Dec.{T, eqb}
use Rattle.whole.specs.Cases.{if, by_test}
use Rattle.theory.specs.Form.{Form, levels_in, actions_in, bytes_in, forbidden_bytes}
use Rattle.theory.specs.Command.{site, push_leaf, push_condition, push_test, push_forbidden, give, name_action, end_model, Read, whole, unknown, short, Placed, readings_in}
use Rattle.theory.specs.Verdict.{Verdict, refusal, verdict_in, or}
use Rattle.theory.specs.Load.{site_in}
use Rattle.theory.specs.Listing.{ListingOut}
use Rattle.theory.specs.Rows.{VerdictRowIn}
use Rattle.theory.proofs.laws.Rows.{if_yes, if_no, some_not, verdict_row_in, verdict_is_in, zero_row_in}
use Rattle.convert_forms.specs.Forms.{model_as}
use Rattle.convert_model.specs.Conversion.{own_refusal, too_large, is_forbidden, forbids, unfit, conversion_refusal, conversion}
use Rattle.convert_model.specs.Statements.{AdmittedIn, FitsIn, refused_conversion, wrote, ConversionRow, conversion_0, conversion_10, conversion_1_8, conversion_20, conversion_17, ConversionRows}
use Rattle.convert_model.proofs.laws.Commands.{Permits}

-- ---- tests

at_most : (n k : ℕ) → n ≤ k → T (not (ltb k n))
at_most n k h = by_test (ltb k n) (λ b. T (not b)) (λ t. absurd (omega (arith, ltb→lt k n t))) (λ _. tt)

neither : (a b : Bool) → T (not (or a b)) → T (not a) × T (not b)
neither true b t = absurd t
neither false b t = (tt, t)

not_either : (a b : Bool) → T (not a) → T (not b) → T (not (or a b))
not_either true b t u = absurd t
not_either false b t u = u

-- a 13 among the readings
met : (l : List Placed) {at : ℕ} → Memᴰ (record { at = at; read = whole push_forbidden }) l → T (forbids l)
unfolding forbids is_forbidden
met [] m = absurd (Memᴰ.not-nil m)
met (x ∷ l) m = ⊎_elim (λ e. subst (λ (y : Placed). T (or (is_forbidden y.read) (forbids l))) e tt) (λ n. right (is_forbidden x.read) (forbids l) (met l n)) (Memᴰ.cases_cons m)
  where
    right : (a b : Bool) → T b → T (or a b)
    right true b t = tt
    right false b t = t

only_13 : (r : Read) → T (is_forbidden r) → r ≡ whole push_forbidden
unfolding is_forbidden
only_13 (whole (site m n a w)) t = absurd t
only_13 (whole (push_leaf p)) t = absurd t
only_13 (whole (push_condition k)) t = absurd t
only_13 (whole (push_test p)) t = absurd t
only_13 (whole push_forbidden) t = refl
only_13 (whole (give g)) t = absurd t
only_13 (whole (name_action a b)) t = absurd t
only_13 (whole end_model) t = absurd t
only_13 unknown t = absurd t
only_13 short t = absurd t

there : (l : List Placed) → T (forbids l) → (at : ℕ) × Memᴰ (record { at = at; read = whole push_forbidden }) l
unfolding forbids
there [] t = absurd t
there (x ∷ l) t = by_test (is_forbidden x.read) (λ b. T (or b (forbids l)) → (at : ℕ) × Memᴰ (record { at = at; read = whole push_forbidden }) (x ∷ l))
    (λ u _. (x.at, subst (λ (r : Read). Memᴰ (record { at = x.at; read = r }) (x ∷ l)) (only_13 x.read u) (Memᴰ.head refl)))
    (λ _ v. let m = there l v in (m.0, Memᴰ.tail m.1)) t

some_of : (n : ℕ) → T (not (eqb n 0)) → 1 ≤ n
some_of n t = by_test (ltb 0 n) (λ _. 1 ≤ n) (λ u. ltb→lt 0 n u) (λ u. let z : n ≡ 0 = omega (arith, nltb→le 0 n u) in absurd (T_not (eqb n 0) t (rw z tt)))

-- the form has 13, or the model has it not
has_it : (n : ℕ) (b : Bool) → T (not (eqb n 0 && b)) → T b → 1 ≤ n
has_it n b t u = by_test (eqb n 0) (λ c. T (not (c && b)) → 1 ≤ n) (λ _ v. absurd (T_not b v u)) (λ s _. some_of n s) t

not_both : (n : ℕ) (b : Bool) → (T b → 1 ≤ n) → T (not (eqb n 0 && b))
not_both n b f = by_test (eqb n 0) (λ c. T (not (c && b))) (λ z. by_test b (λ c. T (not c)) (λ t. absurd (omega (arith, f t, eqb→eq n 0 z))) (λ _. tt)) (λ _. tt)

pub fits_in : (F G : Form) (B : List ℕ) → T (not (unfit F G B (length (model_as F G B)))) → FitsIn F G B
unfolding unfit too_large
fits_in F G B t =
    let S = site_in F B in
    let size = length (model_as F G B) in
    let o = neither (too_large G S size) _ t in
    let a = neither (ltb (levels_in G) S.levels) _ o.0 in
    let b = neither (ltb (actions_in G) S.actions) _ a.1 in
    record {
      levels = nltb→le _ _ a.0;
      actions = nltb→le _ _ b.0;
      bytes = nltb→le _ _ b.1;
      commands = λ m. has_it (forbidden_bytes G) (forbids (readings_in F B)) o.1 (met (readings_in F B) m);
    }

-- what has 13 is a form that has it
pub permits : {F G : Form} {B : List ℕ} → FitsIn F G B → Permits G (readings_in F B)
permits {F} {G} {B} f t = f.commands (there (readings_in F B) t).1

pub fits_commands : (F G : Form) (B : List ℕ) → Permits G (readings_in F B) → {at : ℕ} → Memᴰ (record { at = at; read = whole push_forbidden }) (readings_in F B) → 1 ≤ forbidden_bytes G
fits_commands F G B q m = q (met (readings_in F B) m)

in_fits : (F G : Form) (B : List ℕ) → FitsIn F G B → T (not (unfit F G B (length (model_as F G B))))
unfolding unfit too_large
in_fits F G B f =
    let S = site_in F B in
    not_either (too_large G S (length (model_as F G B))) _
    (not_either (ltb (levels_in G) S.levels) _ (at_most _ _ f.levels) (not_either (ltb (actions_in G) S.actions) _ (at_most _ _ f.actions) (at_most _ _ f.bytes)))
    (not_both (forbidden_bytes G) (forbids (readings_in F B)) (permits f))

module _ (F G : Form) (B buffer : List ℕ) where
  abbrev Row : ListingOut → Type 0
  Row = ConversionRow F G B buffer

  abbrev C : List ℕ
  C = model_as F G B

  -- the outcome by the verdict
  abbrev left_by : Verdict → ListingOut
  left_by v = if (eqb v.number 0) (wrote buffer C) (refused_conversion buffer v.number v.place)

  abbrev large : Bool
  large = unfit F G B (length C)

  abbrev too_short : Bool
  too_short = ltb (length buffer) (length C)

  -- what is left to judge behind the model's own, and behind 20
  abbrev behind_20 : Verdict
  behind_20 = if too_short (refusal 17 0) (refusal 0 0)

  abbrev behind_own : Verdict
  behind_own = if large (refusal 20 0) behind_20

  from_own : Verdict → Verdict
  from_own v = if (not (eqb v.number 0)) v behind_own

  -- ---- the outcome is a row

  judged : AdmittedIn F B → Row (left_by behind_own)
  judged d = by_test large (λ b. Row (left_by (if b (refusal 20 0) behind_20)))
      (λ t. conversion_20 d (λ f. T_not large (in_fits F G B f) t))
      (λ t. by_test too_short (λ b. Row (left_by (if b (refusal 17 0) (refusal 0 0))))
      (λ s. conversion_17 d (fits_in F G B t) (ltb→lt _ _ s))
      (λ s. conversion_0 d (fits_in F G B t) (nltb→le _ _ s)))

  own_row : length B ≤ bytes_in F → (v : Verdict) → VerdictRowIn F B v → Row (left_by (from_own v))
  unfolding from_own
  own_row h v r = by_test (eqb v.number 0) (λ b. eqb v.number 0 ≡ b → Row (left_by (if (not b) v behind_own)))
      (λ t _. judged (record { bytes = h; own = zero_row_in F r (eqb→eq v.number 0 t) }))
      (λ t e. subst (λ (b : Bool). Row (if b (wrote buffer C) (refused_conversion buffer v.number v.place))) (sym e)
      (conversion_1_8 h r (some_of v.number t)))
      refl

  conversion_row : Row (conversion F G B buffer)
  unfolding conversion conversion_refusal own_refusal from_own
  conversion_row = by_test (ltb (bytes_in F) (length B)) (λ b. Row (left_by (from_own (if b (refusal 10 0) (verdict_in F B)))))
      (λ t. conversion_10 (ltb→lt _ _ t))
      (λ t. own_row (nltb→le _ _ t) (verdict_in F B) (verdict_row_in F B))

  -- ---- and each row is the outcome

  own_is : length B ≤ bytes_in F → (v : Verdict) → VerdictRowIn F B v → conversion F G B buffer ≡ left_by (from_own v)
  unfolding conversion conversion_refusal own_refusal from_own
  own_is h v r = ap (λ (v : Verdict). left_by (from_own v)) (if_no (ltb (bytes_in F) (length B)) (refusal 10 0) (verdict_in F B) (at_most _ _ h) ∙ verdict_is_in F B r)

  admitted_is : AdmittedIn F B → conversion F G B buffer ≡ left_by behind_own
  unfolding from_own
  admitted_is d = own_is d.bytes (refusal 0 0) d.own

  fitting_is : AdmittedIn F B → FitsIn F G B → conversion F G B buffer ≡ left_by behind_20
  fitting_is d f = admitted_is d ∙ ap left_by (if_no large (refusal 20 0) behind_20 (in_fits F G B f))

  conversion_is : {o : ListingOut} → Row o → conversion F G B buffer ≡ o
  unfolding conversion conversion_refusal own_refusal from_own
  conversion_is (conversion_0 d f h) = fitting_is d f ∙ ap left_by (if_no too_short (refusal 17 0) (refusal 0 0) (at_most _ _ h))
  conversion_is (conversion_10 h) = ap (λ (v : Verdict). left_by (from_own v)) (if_yes (ltb (bytes_in F) (length B)) (refusal 10 0) (verdict_in F B) (lt→ltb _ _ h))
  conversion_is (conversion_1_8 {k = k} {p = p} h r a) = own_is h (refusal k p) r
      ∙ ap left_by (if_yes (not (eqb k 0)) (refusal k p) behind_own (some_not k a)) ∙ if_no (eqb k 0) (wrote buffer C) (refused_conversion buffer k p) (some_not k a)
  conversion_is (conversion_20 d f) = admitted_is d ∙ ap left_by (if_yes large (refusal 20 0) behind_20 (by_test large T (λ _. tt) (λ t. absurd (f (fits_in F G B t)))))
  conversion_is (conversion_17 d f h) = fitting_is d f ∙ ap left_by (if_yes too_short (refusal 17 0) (refusal 0 0) (lt→ltb _ _ h))

pub conversion_rows : ConversionRows
conversion_rows F G B buffer o = (conversion_is F G B buffer, λ e. subst (ConversionRow F G B buffer) e (conversion_row F G B buffer))
