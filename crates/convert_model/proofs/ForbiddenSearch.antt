-- The search for a 13, with fuel enough for the commands that are left.
use mathlib.Core.Path.{◌≡◌, refl, sym, ap, ◌∙◌}
use mathlib.Core.Bool.{Bool, true, false, ◌&&◌}
use mathlib.Core.List.{List}
use Prim.Native.Nat.{ℕ, zero, suc, ◌+◌, ◌≤◌, ◌<◌}
use native.Mathlib.Omega.{arith}
use borrow.Author.Tests.{eq-eqb, ne_eqb}
use lib.Dec.{eqb}
use lib.ListN.{length}
use Rattle.theory.specs.Form.{Form, forbidden_bytes}
use Rattle.theory.specs.Command.{byte_at, width_in, read_in, goes_on, readings_from_in, readings_in}
use Rattle.theory.specs.Verdict.{or}
use Rattle.theory.specs.Load.{site_in}
use Rattle.theory.proofs.laws.AcceptedModel.{behind_in}
use Rattle.model_command.specs.CursorReadings.{CodeRead}
use Rattle.model_command.specs.CursorReadings.{next_in, read_of_in}
use Rattle.convert_model.specs.Conversion.{is_forbidden, forbids, too_large, unfit}
use Rattle.convert_model.specs.Written.{reads_forbidden}
use Rattle.convert_model.proofs.Thirteen.{forbids_as}
use Rattle.convert_forms.proofs.Pass.{going_whole, next_is}

-- no 13 before an offset
pub record Searched (F : Form) (B : List ℕ) (at : ℕ) : Type 0 where
  pub fuel : ℕ
  pub enough : length B < at + fuel
  pub inside : at ≤ length B
  pub left : forbids (readings_from_in F B fuel at) ≡ forbids (readings_in F B)

pub search_starts : (F : Form) (B : List ℕ) → Searched F B 0
unfolding readings_in
search_starts F B = record { fuel = suc (length B); enough = omega arith; inside = omega arith; left = refl }

module _ {F : Form} {B : List ℕ} {at : ℕ} (p : Searched F B at) where
  -- one more command of those that are left
  opened : (n : ℕ) × (length B < at + suc n) × (or (is_forbidden (read_in F B at)) (forbids (behind_in F B n at (goes_on (read_in F B at)))) ≡ forbids (readings_in F B))
  unfolding readings_from_in forbids
  opened = go p.fuel p.enough p.left
    where
      go : (k : ℕ) → length B < at + k → forbids (readings_from_in F B k at) ≡ forbids (readings_in F B)
          → (n : ℕ) × (length B < at + suc n) × (or (is_forbidden (read_in F B at)) (forbids (behind_in F B n at (goes_on (read_in F B at)))) ≡ forbids (readings_in F B))
      go zero h e = absurd (omega (arith, p.inside))
      go (suc n) h e = (n, h, e)

  abbrev by : ℕ → Bool → Bool → Bool
  by n x y = or x (forbids (behind_in F B n at y))

  pub search_found : is_forbidden (read_in F B at) ≡ true → true ≡ forbids (readings_in F B)
  search_found e = let o = opened in ap (λ (b : Bool). by o.0 b (goes_on (read_in F B at))) (sym e) ∙ o.2

  module _ (e : is_forbidden (read_in F B at) ≡ false) where
    pub search_ends : goes_on (read_in F B at) ≡ false → false ≡ forbids (readings_in F B)
    unfolding forbids
    search_ends g = let o = opened in (λ i. by o.0 (sym e i) (sym g i)) ∙ o.2

    pub search_on : goes_on (read_in F B at) ≡ true → (next : ℕ) → next ≡ next_in F B at → Searched F B next × (at < next)
    search_on g next d =
        let o = opened in
        let w = going_whole F B at g in
        let n : next ≡ at + width_in F (byte_at B at) = d ∙ next_is F B at w in (
          record {
            fuel = o.0;
            enough = omega (arith, o.1, n, w.known);
            inside = omega (arith, n, w.inside);
            left = ap (λ (k : ℕ). forbids (readings_from_in F B o.0 k)) n ∙ (λ i. by o.0 (sym e i) (sym g i)) ∙ o.2;
          },
          omega (arith, n, w.known),
        )

-- what the code's test says of the reading
pub met : (F : Form) (B : List ℕ) (at : ℕ) (r : CodeRead) (b c : Bool) → read_of_in F B at r ≡ read_in F B at → b ≡ reads_forbidden r → b ≡ c → is_forbidden (read_in F B at) ≡ c
met F B at r b c e d f = sym (forbids_as F B at r e) ∙ sym d ∙ f

-- ---- what does not fit

module _ (F G : Form) (B : List ℕ) (size : ℕ) (a : Bool) (e : a ≡ too_large G (site_in F B) size) where
  pub unfit_large : a ≡ true → true ≡ unfit F G B size
  unfolding unfit
  unfit_large t = ap (λ (b : Bool). or b (eqb (forbidden_bytes G) 0 && forbids (readings_in F B))) (sym t ∙ e)

  module _ (t : a ≡ false) (n : ℕ) (f : n ≡ forbidden_bytes G) where
    small : (eqb n 0 && forbids (readings_in F B)) ≡ unfit F G B size
    unfolding unfit
    small = ap (λ (k : ℕ). eqb k 0 && forbids (readings_in F B)) f ∙ ap (λ (b : Bool). or b (eqb (forbidden_bytes G) 0 && forbids (readings_in F B))) (sym t ∙ e)

    pub unfit_by : n ≡ 0 → (b : Bool) → b ≡ forbids (readings_in F B) → b ≡ unfit F G B size
    unfit_by z b g = g ∙ ap (λ (c : Bool). c && forbids (readings_in F B)) (sym (eq-eqb n 0 z)) ∙ small

    pub unfit_not : (n ≡ 0 → ⊥) → false ≡ unfit F G B size
    unfit_not z = ap (λ (c : Bool). c && forbids (readings_in F B)) (sym (ne_eqb n 0 z)) ∙ small
