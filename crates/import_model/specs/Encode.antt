-- The bytes of commands, in the form that the planner reads: "Commands are one byte .., operands of fixed width", "low byte first".
use Rattle.std.specs.Prelude.{List, [], ◌∷◌, ◌++◌, ℕ, zero, suc, ◌+◌, ◌-◌, ◌/◌, ◌%◌, eqb, ℤ, pos, negsuc, length}
use Rattle.whole.specs.Cases.{if}
use Rattle.theory.specs.Form.{new_form, site_byte, action_bytes}
use Rattle.theory.specs.Diagram.{Linear}
use Rattle.theory.specs.Command.{Command, site, push_leaf, push_condition, push_test, push_forbidden, give, Slot, name_action, end_model, whole, Placed}

-- k bytes of a number, "low byte first"
unfoldable pub low_first : ℕ → ℕ → List ℕ
low_first zero n = []
low_first (suc k) n = n % 256 ∷ low_first k (n / 256)

-- "signed 32-bit numbers", two's complement
unfoldable pub word_of : ℤ → ℕ
word_of (pos n) = n
word_of (negsuc n) = 4294967295 - n

-- four bytes each
unfoldable pub words_bytes : List ℤ → List ℕ
unfolding low_first word_of
words_bytes [] = []
words_bytes (z ∷ l) = low_first 4 (word_of z) ++ words_bytes l

-- "coefficients of levels .., then a constant"
unfoldable pub linear_bytes : Linear → List ℕ
unfolding words_bytes
linear_bytes p = words_bytes p.coeffs ++ low_first 4 (word_of p.const)

-- "Action operands are two bytes everywhere"
abbrev pub action_encoded : ℕ → List ℕ
action_encoded a = low_first (action_bytes new_form) a

-- 20 has an action, 21 and 22 an index too, "23 .. with no operand"
unfoldable pub slot_bytes : Slot → List ℕ
unfolding low_first
slot_bytes g =
    if (eqb g.command 0x20) (0x20 ∷ action_encoded g.action)
    (if (eqb g.command 0x23) (0x23 ∷ [])
    (g.command ∷ (action_encoded g.action ++ (g.index ∷ []))))

unfoldable pub command_bytes : Command → List ℕ
unfolding linear_bytes slot_bytes
command_bytes (site m n a w) = site_byte new_form ∷ m ∷ n ∷ (action_encoded a ++ (w ∷ []))
command_bytes (push_leaf p) = 0x10 ∷ linear_bytes p
command_bytes (push_condition k) = 0x11 ∷ k ∷ []
command_bytes (push_test p) = 0x12 ∷ linear_bytes p
command_bytes push_forbidden = 0x13 ∷ []
command_bytes (give g) = slot_bytes g
command_bytes (name_action a t) = 0x30 ∷ (action_encoded a ++ t)
command_bytes end_model = 0xff ∷ []

-- "command by command"
unfoldable pub encode : List Command → List ℕ
unfolding command_bytes
encode [] = []
encode (c ∷ l) = command_bytes c ++ encode l

-- commands, each at the offset where its bytes begin
unfoldable pub placed : ℕ → List Command → List Placed
unfolding command_bytes
placed at [] = []
placed at (c ∷ l) = record { at = at; read = whole c } ∷ placed (at + length (command_bytes c)) l
