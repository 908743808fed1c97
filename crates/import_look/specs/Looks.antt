-- What is read at a place of the text: the command of an atom or of a result.
use Rattle.std.specs.Prelude.{◌≡◌, Bool, true, false, not, List, [], ◌∷◌, ℕ, ◌+◌, ◌-◌, ◌≤◌, eqb, ltb, leb, ℤ, pos, length, drop}
use Rattle.whole.specs.Cases.{if}
use Rattle.whole.specs.Linears.{sub_list}
use Rattle.theory.specs.Command.{Command, push_leaf, push_condition, push_test, push_forbidden, byte_at}
use Rattle.import_grammar.specs.Grammar.{Spaces, Op, Sum, Atom, compare, spaces_bytes, op_bytes, sum_bytes, deepest}
use Rattle.import_numbers.specs.Numbers.{atom_numbers, all_within}
use Rattle.import_model.specs.Commands.{result_command}
use Rattle.model_command.specs.CursorReadings.{linear_of}
use Rattle.import_linears.specs.Nine.{constant9}
use Rattle.import_frames.specs.Frames.{blank}
use Rattle.import_found.specs.Places.{AfterAtom}
use Rattle.import_list.specs.Pending.{first_holds, own, AtomReading, ResultReading}
use Rattle.import_look.specs.declared.Told.{Told}
use Rattle.import_look.specs.declared.Operator.{Operator}

-- bytes without the white space before them
unfoldable pub unspaced : List ℕ → List ℕ
unspaced [] = []
unspaced (k ∷ w) = if (blank k) (unspaced w) (k ∷ w)

pub record Skips (w : List ℕ) (at r : ℕ) : Type 0 where
  pub within : r ≤ length w
  pub rest : drop r w ≡ unspaced (drop at w)

-- "<", "<=", ">", ">=": "(right less left for < and >=, else left less right)"
unfoldable pub operator_of : List ℕ → ℕ → Operator
operator_of w i =
    if (ltb (i + 1) (length w))
    (if (eqb (byte_at w (i + 1)) 61)
    (record { first = true; turned = not (eqb (byte_at w i) 60); next = i + 2 })
    (record { first = false; turned = eqb (byte_at w i) 60; next = i + 1 }))
    (record { first = false; turned = false; next = i })

-- the difference of two linears, if both are within 32 bits
unfoldable pub tested_of : List ℤ → List ℤ → Bool → Told
tested_of a b f =
    if (all_within a) (if (all_within b) (record { kind = 0x12; first = f; condition = 0; linear = sub_list a b }) (record { kind = 0x12; first = f; condition = 0; linear = a }))
    (record { kind = 0x12; first = f; condition = 0; linear = a })

unfoldable pub condition_told : List ℕ → ℕ → ℕ → Told
condition_told w at base = record { kind = 0x11; first = true; condition = if (leb 48 (byte_at w at)) (byte_at w at - 48 + base) 0; linear = constant9 (pos 0) }

-- the command that is told
unfoldable pub command_told : Told → Command
command_told r =
    if (eqb r.kind 0x10) (push_leaf (linear_of r.linear))
    (if (eqb r.kind 0x11) (push_condition r.condition)
    (if (eqb r.kind 0x12) (push_test (linear_of r.linear)) push_forbidden))

-- an atom's own command, and the order of its outcomes
pub record Tells {n : ℕ} (x : Atom n) (r : Told) : Type 0 where
  pub first_is : r.first ≡ first_holds x
  pub own_is : command_told r ≡ own x
  pub fits : all_within r.linear ≡ true

-- for each reading
abbrev pub Looks : List ℕ → ℕ → Told → Type 0
Looks w at r = (R : AtomReading (drop at w)) → Tells R.atom r

abbrev pub Compares : List ℕ → ℕ → Told → Type 0
Compares w at r =
    (n : ℕ) (s : Sum n) (p : Spaces) (op : Op) (t : Sum n) (q : Spaces) (k : ℕ) (f : List ℕ) → n ≤ deepest → AfterAtom k
    → drop at w ≡ sum_bytes s (spaces_bytes p (op_bytes op (sum_bytes t (spaces_bytes q (k ∷ f))))) → all_within (atom_numbers (compare s p op t)) ≡ true → Tells (compare s p op t) r

-- a result's command
pub record LeafTells (u : List ℕ) (R : ResultReading u) (r : Told) : Type 0 where
  pub own_is : command_told r ≡ result_command R.result
  pub fits : all_within r.linear ≡ true

abbrev pub LeafLooks : List ℕ → ℕ → Told → Type 0
LeafLooks w at r = (R : ResultReading (drop at w)) → LeafTells (drop at w) R r
