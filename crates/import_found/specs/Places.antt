-- The commands found in the text itself: no tree is kept. An atom is a place in the text, with the signs of the brackets around it; once it is decided, what comes next is a place further on.
use Rattle.std.specs.Prelude.{Bool, true, false, not, List, [], ◌∷◌, ◌≡◌, ℕ, zero, suc, ◌+◌, ◌≤◌, ◌<◌, eqb, length}
use Rattle.whole.specs.Cases.{if}
use Rattle.theory.specs.Command.{Command}
use Rattle.import_grammar.specs.Grammar.{Spaces, Atom, now, later, compare, group, Result, spaces_bytes, atom_bytes, result_bytes, deepest}
use Rattle.import_numbers.specs.Numbers.{atom_numbers, result_numbers, all_within}
use Rattle.import_model.specs.Commands.{atom_commands, result_command}

-- an atom, whether "!" turns it, and whether "!" turns each bracket that is open, innermost first; a result; or outside the grammar
pub data Place : Type 0 where
  atom_at : Bool → List Bool → List ℕ → Place
  result_at : List ℕ → Place
  lost : Place

-- 20, 09, 0A, 0D
unfoldable pub is_space : ℕ → Bool
is_space k = if (eqb k 32) true (if (eqb k 9) true (if (eqb k 10) true (eqb k 13)))

-- whether a bracket, at what stands behind its "(", is a condition's: "<", ">", "C" or "N" comes before it closes
unfoldable pub is_cond : List ℕ → ℕ → Bool
is_cond [] d = false
is_cond (k ∷ w) d =
    if (eqb k 40) (is_cond w (suc d))
    (if (eqb k 41) (elim d [ zero ↦ false | suc e ↦ is_cond w e ])
    (if (eqb k 60) true (if (eqb k 62) true (if (eqb k 67) true (if (eqb k 78) true (is_cond w d))))))

unfoldable pub after_colon : List ℕ → Place
after_colon [] = lost
after_colon (k ∷ w) = if (eqb k 58) (result_at w) (after_colon w)

-- from where a condition, a case or an else begins; an else stands in no bracket
unfoldable pub go : List ℕ → Bool → List Bool → Place
unfolding is_cond after_colon is_space
go [] b ps = lost
go (k ∷ w) b ps =
    if (eqb k 33) (go w (not b) ps)
    (if (eqb k 40) (if (is_cond w 0) (go w false (b ∷ ps)) (atom_at b ps (k ∷ w)))
    (if (eqb k 101) (elim ps [ [] ↦ after_colon w | p ∷ qs ↦ lost ])
    (if (is_space k) (go w b ps) (atom_at b ps (k ∷ w)))))

-- behind the next ";"
unfoldable pub next_case : List ℕ → Place
unfolding go
next_case [] = lost
next_case (k ∷ w) = if (eqb k 59) (go w false []) (next_case w)

abbrev pub xor : Bool → Bool → Bool
xor true v = not v
xor false v = v

-- what comes next where the atom before, or the part that it decides, is v; d brackets are open inside what is passed over; `whole-and` says that the rest of a row of "&" is passed over too
unfoldable pub find : List ℕ → ℕ → Bool → Bool → List Bool → Place
unfolding next_case
find [] d v whole-and ps = lost
find (k ∷ w) d v whole-and ps =
    if (eqb k 40) (find w (suc d) v whole-and ps)
    (if (eqb k 41) (elim d [ zero ↦ elim ps [ [] ↦ lost | p ∷ qs ↦ find w 0 (xor p v) false qs ] | suc e ↦ find w e v whole-and ps ])
    (elim d [
      | zero ↦
          if (eqb k 38) (if v (if whole-and (find w 0 v whole-and ps) (go w false ps)) (find w 0 v whole-and ps))
          (if (eqb k 124) (if v (find w 0 true true ps) (go w false ps))
          (if (eqb k 58) (if v (result_at w) (next_case w)) (find w 0 v whole-and ps)))
      | suc e ↦ find w (suc e) v whole-and ps
    ]))

-- ---- the commands at a place

-- what may follow an atom: "&", "|", ")" or ":"
pub data AfterAtom : ℕ → Type 0 where
  and_behind : AfterAtom 38
  or_behind : AfterAtom 124
  close_behind : AfterAtom 41
  colon_behind : AfterAtom 58

-- what may follow a result: ";", an item, or the end
pub data AfterResult : List ℕ → Type 0 where
  ends_text : AfterResult []
  ends_case : {f : List ℕ} → AfterResult (59 ∷ f)
  reward_next : {f : List ℕ} → AfterResult (114 ∷ f)
  chance_next : {f : List ℕ} → AfterResult (99 ∷ f)
  name_next : {f : List ℕ} → AfterResult (110 ∷ f)
  end_next : {f : List ℕ} → AfterResult (101 ∷ f)

-- an atom that is no bracket of a condition
abbrev pub Decided : {n : ℕ} → Atom n → Type 0
Decided (now p i) = Unit {0}
Decided (later p i) = Unit {0}
Decided (compare s p op t) = Unit {0}
Decided (group p o q) = ⊥

-- an atom's commands are those of its two outcomes and its own; a result has one; "Brackets .. nest at most 32 deep", and no number is "beyond signed 32 bits"
pub data Emits : Place → List Command → Type 0 where
  by_result : {w : List ℕ} (r : Result) (q : Spaces) (f : List ℕ) → w ≡ result_bytes r (spaces_bytes q f) → AfterResult f → all_within (result_numbers r) ≡ true → Emits (result_at w) (result_command r ∷ [])
  by_atom : {b : Bool} {ps : List Bool} {w : List ℕ} {n : ℕ} (x : Atom n) (q : Spaces) (k : ℕ) (f : List ℕ) → n + length ps ≤ deepest → Decided x → AfterAtom k
      → w ≡ atom_bytes x (spaces_bytes q (k ∷ f)) → all_within (atom_numbers x) ≡ true
      → (T F : List Command) → Emits (find w 0 (not b) false ps) T → Emits (find w 0 b false ps) F → Emits (atom_at b ps w) (atom_commands x T F)

-- more brackets are open than a text may have: no commands are there
abbrev pub TooDeep : Place → Type 0
TooDeep (atom_at b ps w) = deepest < length ps
TooDeep (result_at w) = ⊥
TooDeep lost = Unit {0}
