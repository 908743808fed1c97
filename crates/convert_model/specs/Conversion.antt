-- "A converter writes the 02 model, command by command in the same order, .. and another writes the 01 model": the outcome, refused calls included.
use Rattle.std.specs.Prelude.{Bool, true, false, not, ◌&&◌, List, [], ◌∷◌, ℕ, eqb, ltb, length}
use Rattle.whole.specs.Cases.{if}
use Rattle.theory.specs.Form.{Form, old_form, new_form, levels_in, actions_in, bytes_in, forbidden_bytes}
use Rattle.theory.specs.Command.{site, push_leaf, push_condition, push_test, push_forbidden, give, name_action, end_model, Read, whole, unknown, short, Placed, readings_in}
use Rattle.theory.specs.Verdict.{Site, Verdict, refusal, verdict_in, or}
use Rattle.theory.specs.Load.{site_in}
use Rattle.theory.specs.Listing.{written, ListingOut}
use Rattle.convert_forms.specs.Forms.{model_as}

-- "10: model above .. bytes", "Old models keep their limit of 65,535 bytes"; then the model's own refusals, by its offsets
unfoldable pub own_refusal : Form → List ℕ → Verdict
own_refusal F B = if (ltb (bytes_in F) (length B)) (refusal 10 0) (verdict_in F B)

-- "a model that does not fit the old one (m above 4, A above 8, or too many bytes once written)"
unfoldable pub too_large : Form → Site → ℕ → Bool
too_large G S size = or (ltb (levels_in G) S.levels) (or (ltb (actions_in G) S.actions) (ltb (bytes_in G) size))

-- "Command 13", as it is read
unfoldable pub is_forbidden : Read → Bool
is_forbidden (whole (site m n a w)) = false
is_forbidden (whole (push_leaf p)) = false
is_forbidden (whole (push_condition k)) = false
is_forbidden (whole (push_test p)) = false
is_forbidden (whole push_forbidden) = true
is_forbidden (whole (give g)) = false
is_forbidden (whole (name_action a t)) = false
is_forbidden (whole end_model) = false
is_forbidden unknown = false
is_forbidden short = false

-- a model with 13, wherever it stands
unfoldable pub forbids : List Placed → Bool
forbids [] = false
forbids (x ∷ l) = or (is_forbidden x.read) (forbids l)

-- what does not fit: too large, or "A model with 13 does not fit the old form"
unfoldable pub unfit : Form → Form → List ℕ → ℕ → Bool
unfit F G B size = or (too_large G (site_in F B) size) (eqb (forbidden_bytes G) 0 && forbids (readings_in F B))

-- "with 20 after the model's own refusals; .. and a short one is 17, last"
unfoldable pub conversion_refusal : Form → Form → List ℕ → ℕ → Verdict
conversion_refusal F G B room =
    let v = own_refusal F B in
    let size = length (model_as F G B) in
    if (not (eqb v.number 0)) v
    (if (unfit F G B size) (refusal 20 0)
    (if (ltb room size) (refusal 17 0) (refusal 0 0)))

-- "to the start of a lent buffer and gives its length"; "no byte after it is touched"; refused, "the buffer stays untouched"
unfoldable pub conversion : Form → Form → List ℕ → List ℕ → ListingOut
conversion F G B buffer =
    let v = conversion_refusal F G B (length buffer) in
    if (eqb v.number 0) (record { number = 0; place = 0; size = length (model_as F G B); buffer = written buffer 0 (model_as F G B) })
    (record { number = v.number; place = v.place; size = 0; buffer = buffer })

abbrev pub to_new : List ℕ → List ℕ → ListingOut
to_new = conversion old_form new_form

abbrev pub to_old : List ℕ → List ℕ → ListingOut
to_old = conversion new_form old_form
