-- "An action's name is that part of the model itself, without its trailing spaces".
use Rattle.std.specs.Prelude.{Bool, false, List, [], ◌∷◌, ℕ, zero, suc, ◌+◌, eqb, get_or, take, drop}
use Rattle.whole.specs.Cases.{if}
use Rattle.theory.specs.Widths.{steps_most, name_bytes}
use Rattle.theory.specs.Form.{new_form, behind_action}
use Rattle.theory.specs.Valid.{among}
use Rattle.theory.specs.Command.{site, push_leaf, push_condition, push_test, push_forbidden, give, name_action, end_model, Read, whole, unknown, short, Placed, readings}
use Rattle.theory.specs.Verdict.{Verdict, refusal}
use Rattle.theory.specs.Load.{site_at}
use Rattle.theory.specs.Solve.{early}

-- a command names action a
unfoldable pub names_action : ℕ → Read → Bool
names_action a (whole (site m n b w)) = false
names_action a (whole (push_leaf p)) = false
names_action a (whole (push_condition k)) = false
names_action a (whole (push_test p)) = false
names_action a (whole push_forbidden) = false
names_action a (whole (give g)) = false
names_action a (whole (name_action b t)) = eqb a b
names_action a (whole end_model) = false
names_action a unknown = false
names_action a short = false

-- a part of the model
pub record Part : Type 0 where
  pub start : ℕ
  pub size : ℕ

-- "empty"
abbrev pub no_part : Part
no_part = record { start = 0; size = 0 }

-- how long the first k bytes are without the spaces at their end
unfoldable pub trimmed : List ℕ → ℕ → ℕ
trimmed l zero = 0
trimmed l (suc k) = if (eqb (get_or l k 0) 0x20) (trimmed l k) (suc k)

-- the bytes behind the command's byte and its action
unfoldable pub named_part : List ℕ → ℕ → List Placed → Part
named_part B a [] = no_part
named_part B a (x ∷ l) =
    let start = x.at + behind_action new_form in
    if (names_action a x.read) (record { start = start; size = trimmed (drop start B) name_bytes }) (named_part B a l)

-- "16: action not 1 to A", after 10 and the model's own; no steps are asked
unfoldable pub name_refusal : List ℕ → ℕ → Verdict
name_refusal B a =
    let v = early B 1 steps_most in
    if (eqb v.number 0) (if (among (site_at B).actions a) (refusal 0 0) (refusal 16 0)) v

-- "empty if it has none or the call is refused"
unfoldable pub name_part : List ℕ → ℕ → Part
name_part B a = if (eqb (name_refusal B a).number 0) (named_part B a (readings B)) no_part

-- the bytes of the name
unfoldable pub name : List ℕ → ℕ → List ℕ
name B a = take (name_part B a).size (drop (name_part B a).start B)
