-- A walk over the commands of a model to the one that names an action, and its bytes without the spaces at their end.
use mathlib.Core.Path.{◌≡◌, refl, sym, ap, ◌∙◌}
use mathlib.Core.Bool.{Bool, true, false}
use mathlib.Core.List.{List, []}
use Prim.Native.Nat.{ℕ, zero, suc, ◌+◌, ◌-◌, ◌≤◌, ◌<◌}
use native.Mathlib.Omega.{arith}
use borrow.Author.Tests.{eq-eqb, ne_eqb}
use lib.Dec.{eqb}
use lib.ListN.{length, get_or, take, drop}
use lib.Seq.{get_or-drop}
use Rattle.whole.specs.Cases.{if}
use Rattle.theory.specs.Command.{Command, site, push_leaf, push_condition, push_test, push_forbidden, give, name_action, end_model, Read, whole, unknown, short, read_at, byte_at, width, goes_on, readings_from, readings, readings_in}
use Rattle.theory.specs.Widths.{name_bytes, steps_most}
use Rattle.theory.specs.Form.{new_form, behind_action}
use Rattle.theory.specs.Valid.{among}
use Rattle.theory.specs.Verdict.{Verdict, refusal}
use Rattle.theory.specs.Load.{site_at}
use Rattle.theory.specs.Solve.{early}
use Rattle.theory.specs.Name.{names_action, Part, no_part, trimmed, named_part, name_refusal, name_part, name}
use Rattle.model_command.specs.declared.Command.{Command as CodeCommand}
use Rattle.model_command.specs.declared.Command.TheVariants.{Site, Leaf, Condition, Test, Forbidden, Give, Name, End}
use Rattle.model_command.specs.CursorReadings.{CodeRead}
use Rattle.model_command.specs.declared.CommandError.TheVariants.{Unknown, Short}
use Rattle.std.specs.Prelude.{Ok, Err}
use Rattle.model_command.specs.CursorReadings.{command_of, command_of_in, read_of, read_of_in, next_at}
use Rattle.model_command.proofs.Forward.{whole_bytes, length_of, length_whole}
use Rattle.model.specs.declared.Verdict.{Verdict as CodeVerdict}
use Rattle.model.specs.Answers.{shown, is_end}
use Rattle.model.proofs.Walk.{opened, from_first, at_end, going, forward}

-- ---- "without its trailing spaces"

module _ (l : List ℕ) (at : ℕ) where
  last : (k : ℕ) → get_or (drop at l) k 0 ≡ get_or l (at + (suc k - 1)) 0
  last k =
      let e : at + k ≡ at + (suc k - 1) = omega arith in
      get_or-drop at l k 0 ∙ ap (λ (i : ℕ). get_or l i 0) e

  pub trim_stay : (k : ℕ) → 0 < k → (get_or l (at + (k - 1)) 0 ≡ 0x20 → ⊥) → k ≡ trimmed (drop at l) k
  unfolding trimmed
  trim_stay zero h n = absurd (omega arith)
  trim_stay (suc k) h n = rw (last k, ne_eqb _ _ n)

  pub trim_down : (k : ℕ) → 0 < k → get_or l (at + (k - 1)) 0 ≡ 0x20 → trimmed (drop at l) (k - 1) ≡ trimmed (drop at l) k
  unfolding trimmed
  trim_down zero h e = absurd (omega arith)
  trim_down (suc k) h e =
      let d : suc k - 1 ≡ k = omega arith in
      ap (trimmed (drop at l)) d ∙ rw (last k, eq-eqb _ _ e)

-- ---- the command that names an action

pub names_other : (a : ℕ) (B : List ℕ) (at : ℕ) (c : CodeCommand) → ((x : ℕ) → c ≡ Name x → ⊥) → false ≡ names_action a (whole (command_of B at c))
unfolding names_action command_of_in
names_other a B at (Site m n b w) k = refl
names_other a B at Leaf k = refl
names_other a B at (Condition i) k = refl
names_other a B at Test k = refl
names_other a B at Forbidden k = refl
names_other a B at (Give x b j) k = refl
names_other a B at (Name b) k = absurd (k b refl)
names_other a B at End k = refl

-- how many bytes a command that names an action has
name_length : (a : ℕ) (c : Command) → names_action a (whole c) ≡ true → length_of new_form c ≡ behind_action new_form + name_bytes
unfolding names_action length_of
name_length a (site m n b w) e = absurd (let z : ◌≡◌ {A = ℕ} 0 1 = cc in omega arith)
name_length a (push_leaf p) e = absurd (let z : ◌≡◌ {A = ℕ} 0 1 = cc in omega arith)
name_length a (push_condition k) e = absurd (let z : ◌≡◌ {A = ℕ} 0 1 = cc in omega arith)
name_length a (push_test p) e = absurd (let z : ◌≡◌ {A = ℕ} 0 1 = cc in omega arith)
name_length a push_forbidden e = absurd (let z : ◌≡◌ {A = ℕ} 0 1 = cc in omega arith)
name_length a (give g) e = absurd (let z : ◌≡◌ {A = ℕ} 0 1 = cc in omega arith)
name_length a (name_action b t) e = refl
name_length a end_model e = absurd (let z : ◌≡◌ {A = ℕ} 0 1 = cc in omega arith)

-- the bytes of a name are there
pub name_room : (a : ℕ) (B : List ℕ) (at : ℕ) (c : Command) → whole c ≡ read_at B at → names_action a (whole c) ≡ true → at + behind_action new_form + name_bytes ≤ length B
name_room a B at c e n =
    let w = length_whole new_form B at c e ∙ name_length a c n in
    let h = (whole_bytes new_form B at c e).0.ends in
    omega arith

-- ---- one turn

pub record Seek (B : List ℕ) (a at : ℕ) : Type 0 where
  pub fuel : ℕ
  pub enough : length B - at < fuel
  pub finds : named_part B a (readings_from B fuel at) ≡ named_part B a (readings B)

pub seek_starts : (B : List ℕ) (a : ℕ) → Seek B a 0
unfolding readings_in
seek_starts B a = record { fuel = suc (length B); enough = omega arith; finds = refl }

module _ {B : List ℕ} {a at : ℕ} (w : Seek B a at) where
  first : (r : Read) → r ≡ read_at B at → (n : ℕ) × (length B - at < suc n) × (named_part B a (from_first B at n r) ≡ named_part B a (readings B))
  first = opened (named_part B a) (named_part B a (readings B)) B at w.fuel w.enough w.finds

  -- no whole command
  pub seek_stops : (r : CodeRead) → ((d : CodeCommand) → r ≡ Ok d → ⊥) → read_of B at r ≡ read_at B at → no_part ≡ named_part B a (readings B)
  unfolding read_of_in named_part names_action goes_on
  seek_stops (Ok c) k e = absurd (k c refl)
  seek_stops (Err Unknown) k e = (first unknown e).2
  seek_stops (Err Short) k e = (first short e).2

  pub seek_found : (c : Command) (k n : ℕ) → k ≡ behind_action new_form → whole c ≡ read_at B at → names_action a (whole c) ≡ true → n ≡ trimmed (drop (at + k) B) name_bytes
      → record { start = at + k; size = n } ≡ named_part B a (readings B)
  unfolding named_part
  seek_found c k n b e f g =
      ap (λ (m : ℕ). record { start = at + k; size = m }) g ∙ ap (λ (m : ℕ). record { start = at + m; size = trimmed (drop (at + m) B) name_bytes }) b ∙ (rw f at (first (whole c) e).2)

  other : (c : Command) → whole c ≡ read_at B at → names_action a (whole c) ≡ false → (k : ℕ) × (length B - at < suc k)
      × (named_part B a (if (goes_on (whole c)) (readings_from B k (at + width (byte_at B at))) []) ≡ named_part B a (readings B))
  unfolding named_part
  other c e f = let o = first (whole c) e in (o.0, o.1, rw f at o.2)

  pub seek_ends : (c : CodeCommand) → whole (command_of B at c) ≡ read_at B at → names_action a (whole (command_of B at c)) ≡ false → is_end c ≡ true → no_part ≡ named_part B a (readings B)
  unfolding named_part names_action goes_on
  seek_ends c e f i = (other end_model (ap whole (sym (at_end B at c i)) ∙ e) refl).2

  pub seek_on : (c : CodeCommand) (next : ℕ) → whole (command_of B at c) ≡ read_at B at → names_action a (whole (command_of B at c)) ≡ false → is_end c ≡ false → next ≡ next_at B at → Seek B a next
  seek_on c next e f i g =
      let o = other (command_of B at c) e f in
      let h = forward B at (command_of B at c) next e g in
      let y = going B at c i in
      record { fuel = o.0; enough = omega (arith, o.1, h.1, h.2); finds = rw (y.0, ← h.0) at o.2 }

-- ---- the call: "empty if it has none or the call is refused"

module _ (B : List ℕ) (a : ℕ) where
  pub early_refused : (v : CodeVerdict) → shown v ≡ early B 1 steps_most → (v.number ≡ 0 → ⊥) → shown v ≡ name_refusal B a
  unfolding name_refusal
  early_refused v e h = rw (← e, ne_eqb v.number 0 h)

  pub early_passed : (v : CodeVerdict) (n : ℕ) (b : Bool) → shown v ≡ early B 1 steps_most → v.number ≡ 0 → (site_at B).actions ≡ n → among n a ≡ b → if b (refusal 0 0) (refusal 16 0) ≡ name_refusal B a
  unfolding name_refusal
  early_passed v n b e z s t = rw (← e, z, s, t)

  module _ (v : CodeVerdict) (e : shown v ≡ name_refusal B a) where
    number : v.number ≡ (name_refusal B a).number
    number = ap (λ (o : Verdict). o.number) e

    pub part_refused : (v.number ≡ 0 → ⊥) → name_part B a ≡ no_part
    unfolding name_part
    part_refused h = let n : eqb (name_refusal B a).number 0 ≡ false = ne_eqb _ 0 (λ z. h (number ∙ z)) in rw n

    pub part_passed : v.number ≡ 0 → name_part B a ≡ named_part B a (readings B)
    unfolding name_part
    part_passed z = let n : eqb (name_refusal B a).number 0 ≡ true = eq-eqb _ 0 (sym number ∙ z) in rw n

  pub name_empty : name_part B a ≡ no_part → [] ≡ name B a
  unfolding name
  name_empty e = rw e

  pub name_bytes_are : (p : Part) → name_part B a ≡ p → take (p.start + p.size - p.start) (drop p.start B) ≡ name B a
  unfolding name
  name_bytes_are p e = let d : p.start + p.size - p.start ≡ p.size = omega arith in rw (e, d)
