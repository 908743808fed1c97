-- Proofs of the statements, of what the calls return.
use Rattle.std.specs.Prelude.{◌≡◌, refl, List, ℕ, ◌+◌, ◌≤◌, ◌<◌, length, drop}
use Rattle.std.proofs.Common.{sym, ap, ◌∙◌, subst, arith, length-append, length-drop}
use Rattle.std.proofs.Math.Seq.{take-append_seam, drop-append_seam}
use Rattle.theory.specs.Form.{Form, old_form, new_form, levels_in, actions_in, bytes_in}
use Rattle.theory.specs.Process.{optimum, lowest_best}
use Rattle.theory.specs.Meaning.{Model, process}
use Rattle.theory.specs.Verdict.{Verdict, refusal, verdict_in}
use Rattle.theory.specs.Load.{site_in}
use Rattle.theory.specs.Listing.{written, ListingOut}
use Rattle.theory.specs.Rows.{VerdictRowIn}
use Rattle.theory.proofs.laws.Rows.{verdict_is_in, verdict_row_in}
use Rattle.theory.proofs.laws.Numbers.{verdict_most}
use Rattle.convert_forms.specs.Forms.{model_as}
use Rattle.convert_model.specs.Conversion.{conversion}
use Rattle.convert_model.specs.Statements.{AdmittedIn, FitsIn, wrote, ConversionRow, conversion_0, conversion_10, conversion_1_8, conversion_20}
use Rattle.convert_model.specs.Statements.{conversion_17, bytes_of, OnlyItsOwn, NothingElse, NewAccepted, OldAccepted, SameBest, SameBack}
use Rattle.convert_model.specs.Statements.{BackAndForward, ForwardAndBack, NeverTwenty}
use Rattle.convert_model.proofs.laws.OneCommand.{Turn, turn_new, turn_old}
use Rattle.convert_model.proofs.laws.Commands.{SiteFits}
use Rattle.convert_model.proofs.laws.Models.{Carried, carried, same_model, own_room, own_permits, permits_as}
use Rattle.convert_model.proofs.laws.Rows.{permits, fits_commands, conversion_rows}

-- ---- the bytes that are written

wrote_bytes : (buffer C : List ℕ) → bytes_of (wrote buffer C) ≡ C
unfolding written
wrote_bytes buffer C = take-append_seam C (drop (0 + length C) buffer)

wrote_only : (buffer C : List ℕ) → length C ≤ length buffer → OnlyItsOwn buffer (wrote buffer C)
unfolding written
wrote_only buffer C h =
    let rest = drop (0 + length C) buffer in
    let n : 0 + length C ≡ length C = omega arith in
    record {
      long = omega (arith, length-append C rest, length-drop (0 + length C) buffer);
      behind = drop-append_seam C rest ∙ ap (λ (k : ℕ). drop k buffer) n;
      refused = λ k. absurd (omega (arith, k));
    }

row_only : {F G : Form} {B buffer : List ℕ} {o : ListingOut} → ConversionRow F G B buffer o → OnlyItsOwn buffer o
row_only (conversion_0 d f h) = wrote_only _ _ h
row_only (conversion_10 h) = record { long = refl; behind = refl; refused = λ _. refl }
row_only (conversion_1_8 h r a) = record { long = refl; behind = refl; refused = λ _. refl }
row_only (conversion_20 d f) = record { long = refl; behind = refl; refused = λ _. refl }
row_only (conversion_17 d f h) = record { long = refl; behind = refl; refused = λ _. refl }

row_of : (F G : Form) (B buffer : List ℕ) → ConversionRow F G B buffer (conversion F G B buffer)
row_of F G B buffer = (conversion_rows F G B buffer (conversion F G B buffer)).1 refl

pub nothing_else : NothingElse
nothing_else F G B buffer = row_only (row_of F G B buffer)

-- ---- a call that is not refused

record ConversionDone (F G : Form) (B : List ℕ) (o : ListingOut) : Type 0 where
  admitted : AdmittedIn F B
  fits : FitsIn F G B
  bytes : bytes_of o ≡ model_as F G B

row_done : {F G : Form} {B buffer : List ℕ} {o : ListingOut} → ConversionRow F G B buffer o → o.number ≡ 0 → ConversionDone F G B o
row_done {F} {G} {B} {buffer} (conversion_0 d f h) e = record { admitted = d; fits = f; bytes = wrote_bytes buffer (model_as F G B) }
row_done (conversion_10 h) e = absurd (omega (arith, e))
row_done (conversion_1_8 h r a) e = absurd (omega (arith, e))
row_done (conversion_20 d f) e = absurd (omega (arith, e))
row_done (conversion_17 d f h) e = absurd (omega (arith, e))

done : (F G : Form) (B buffer : List ℕ) → (conversion F G B buffer).number ≡ 0 → ConversionDone F G B (conversion F G B buffer)
done F G B buffer e = row_done (row_of F G B buffer) e

own_zero : {F : Form} {B : List ℕ} → AdmittedIn F B → (verdict_in F B).number ≡ 0
own_zero {F} {B} d = ap (λ (v : Verdict). v.number) (verdict_is_in F B d.own)

accepted_row : (F : Form) (B : List ℕ) → verdict_in F B ≡ refusal 0 0 → VerdictRowIn F B (refusal 0 0)
accepted_row F B e = subst (VerdictRowIn F B) e (verdict_row_in F B)

-- what it wrote is the model in the other form
carried_by : {F G : Form} → Turn F G → (B buffer : List ℕ) → (conversion F G B buffer).number ≡ 0 → Carried F G B (bytes_of (conversion F G B buffer))
carried_by {F} {G} t B buffer e =
    let d = done F G B buffer e in
    subst (Carried F G B) (sym d.bytes) (carried t B (own_zero d.admitted) (record { levels = d.fits.levels; actions = d.fits.actions }) (permits d.fits))

accepted_by : {F G : Form} → Turn F G → (B buffer : List ℕ) → (conversion F G B buffer).number ≡ 0 → AdmittedIn G (bytes_of (conversion F G B buffer))
accepted_by {F} {G} t B buffer e =
    let d = done F G B buffer e in
    record { bytes = subst (λ (l : List ℕ). length l ≤ bytes_in G) (sym d.bytes) d.fits.bytes; own = accepted_row G _ (carried_by t B buffer e).accepted }

home_by : {F G : Form} → Turn F G → (B buffer other : List ℕ) → (conversion F G B buffer).number ≡ 0 → length B ≤ length other → conversion G F (bytes_of (conversion F G B buffer)) other ≡ wrote other B
home_by {F} {G} t B buffer other e h =
    let d = done F G B buffer e in
    let c = carried_by t B buffer e in
    let C = bytes_of (conversion F G B buffer) in
    let r : SiteFits F (site_in G C) = subst (SiteFits F) (sym c.same_site) (own_room t B (own_zero d.admitted)) in
    let n : length (model_as G F C) ≡ length B = ap length c.home in
    (conversion_rows G F C other (wrote other (model_as G F C))).0
    (conversion_0 (accepted_by t B buffer e) (record { levels = r.levels; actions = r.actions; bytes = omega (arith, n, d.admitted.bytes); commands = fits_commands G F C (permits_as c F (own_permits F B)) }) (omega (arith, n, h)))
    ∙ ap (wrote other) c.home

pub new_accepted : NewAccepted
new_accepted = accepted_by turn_new

pub old_accepted : OldAccepted
old_accepted = accepted_by turn_old

pub same_best : SameBest
same_best B buffer e h s =
    let m = same_model (carried_by turn_new B buffer e) in
    (ap (λ (M : Model). optimum (process M) h s) m, ap (λ (M : Model). lowest_best (process M) h s) m)

pub same_back : SameBack
same_back B buffer e = same_model (carried_by turn_old B buffer e)

pub back_and_forward : BackAndForward
back_and_forward = home_by turn_old

pub forward_and_back : ForwardAndBack
forward_and_back = home_by turn_new

-- ---- going forward, nothing is too large

forward_fits : (B : List ℕ) → AdmittedIn old_form B → FitsIn old_form new_form B × (length (model_as old_form new_form B) < 115500)
forward_fits B d =
    let r = own_room turn_new B (own_zero d) in
    let l : (site_in old_form B).levels ≤ levels_in new_form = omega (arith, r.levels) in
    let a : (site_in old_form B).actions ≤ actions_in new_form = omega (arith, r.actions) in
    let c = carried turn_new B (own_zero d) (record { levels = l; actions = a }) (λ _. omega arith) in
    let n : length (model_as old_form new_form B) < 115500 = omega (arith, c.most, d.bytes) in
    (record { levels = l; actions = a; bytes = omega (arith, n); commands = λ _. omega arith }, n)

row_few : {B buffer : List ℕ} {o : ListingOut} → ConversionRow old_form new_form B buffer o → (o.number ≡ 20 → ⊥) × (o.size < 115500)
row_few {B} (conversion_0 d f h) = (λ e. absurd (omega (arith, e)), (forward_fits B d).1)
row_few (conversion_10 h) = (λ e. absurd (omega (arith, e)), omega arith)
row_few (conversion_1_8 h r a) = (λ e. absurd (omega (arith, e, verdict_most old_form r)), omega arith)
row_few {B} (conversion_20 d f) = absurd (f (forward_fits B d).0)
row_few (conversion_17 d f h) = (λ e. absurd (omega (arith, e)), omega arith)

pub never_twenty : NeverTwenty
never_twenty B buffer = row_few (row_of old_form new_form B buffer)
