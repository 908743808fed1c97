-- One turn of the pass, with fuel enough for the rest.
use mathlib.Core.Path.{◌≡◌, refl, sym, ap, ◌∙◌}
use mathlib.Core.Bool.{Bool, true, false, ◌&&◌}
use mathlib.Core.List.{List, [], ◌∷◌}
use Prim.Native.Nat.{ℕ, suc, ◌+◌, ◌-◌, ◌≤◌, ◌<◌}
use native.Mathlib.Omega.{arith}
use lib.Dec.{eqb}
use lib.Pointwise.{pointwise}
use lib.ListN.{length, take, drop, length-drop}
use Rattle.whole.specs.Cases.{if}
use Rattle.theory.specs.Command.{Command, name_action, end_model, Read, whole, unknown, short, read_at, goes_on, readings_from, readings, readings_in}
use Rattle.theory.specs.Widths.{name_bytes}
use Rattle.theory.specs.Form.{new_form, behind_action}
use Rattle.theory.specs.Name.{trimmed}
use Rattle.theory.proofs.laws.Name.{name_bytes_at}
use Rattle.model_command.specs.declared.Command.{Command as CodeCommand}
use Rattle.model_command.specs.declared.Command.TheVariants.{Site, Leaf, Condition, Test, Forbidden, Give, Name, End}
use Rattle.model_command.specs.CursorReadings.{CodeRead}
use Rattle.model_command.specs.declared.CommandError.TheVariants.{Unknown, Short}
use Rattle.std.specs.Prelude.{Ok, Err}
use Rattle.model_command.specs.CursorReadings.{command_of, command_of_in, read_of, read_of_in, next_at}
use Rattle.model.specs.Answers.{is_end}
use Rattle.model.proofs.Walk.{opened, from_first, at_end, going, forward}
use Rattle.model_find.specs.declared.Bearers.{Bearers}
use Rattle.model_find.specs.declared.Bearers.TheVariants.{Nobody}
use Rattle.model_find.specs.Find.{trim, same_name}
use Rattle.model_find.specs.Tally.{joined, with_reading, tally}
use Rattle.model_find.proofs.laws.Spaces.{trim_first}

-- ---- one command

-- bytes that are the name, but for spaces at their end
same_each : (x y : List ℕ) → pointwise eqb x y ≡ same_name x y
unfolding same_name
same_each [] [] = refl
same_each [] (b ∷ y) = refl
same_each (a ∷ x) [] = refl
same_each (a ∷ x) (b ∷ y) = ap (λ (c : Bool). eqb a b && c) (same_each x y)

pub spelt : (B : List ℕ) (from : ℕ) (x : List ℕ) (n : ℕ) → from + name_bytes ≤ length B → n ≡ trimmed (drop from B) name_bytes
    → pointwise eqb (take (from + n - from) (drop from B)) x ≡ same_name (trim (take name_bytes (drop from B))) x
spelt B from x n h e =
    let l = drop from B in
    let j : from + n - from ≡ n = omega arith in
    let i : take (from + n - from) l ≡ trim (take name_bytes l) = ap (λ (k : ℕ). take k l) (j ∙ e) ∙ sym (trim_first l name_bytes (omega (arith, length-drop from B))) in
    same_each _ x ∙ ap (λ (y : List ℕ). same_name y x) i

module _ (B : List ℕ) (at : ℕ) {c : CodeCommand} (a : ℕ) (e : c ≡ Name a) where
  named : command_of B at c ≡ name_action a (take name_bytes (drop (at + behind_action new_form) B))
  unfolding command_of_in
  named = ap (command_of B at) e

  -- the bytes of its name are there
  pub room : whole (command_of B at c) ≡ read_at B at → at + (behind_action new_form + name_bytes) ≤ length B
  room f = (name_bytes_at B at a (take name_bytes (drop (at + behind_action new_form) B)) (sym f ∙ ap whole named)).1

  module _ (x : List ℕ) (s : Bearers) (b : Bool) (from : ℕ) (h : from ≡ behind_action new_form) (g : b ≡ same_name (trim (take name_bytes (drop (at + from) B))) x) where
    f : b ≡ same_name (trim (take name_bytes (drop (at + behind_action new_form) B))) x
    f = g ∙ ap (λ (k : ℕ). same_name (trim (take name_bytes (drop (at + k) B))) x) h

    pub joins : b ≡ true → joined s a ≡ with_reading x s (whole (command_of B at c))
    unfolding with_reading
    joins t = sym (ap (λ (d : Command). with_reading x s (whole d)) named ∙ ap (λ (b : Bool). if b (joined s a) s) (sym f ∙ t))

    pub passes : b ≡ false → s ≡ with_reading x s (whole (command_of B at c))
    unfolding with_reading
    passes t = sym (ap (λ (d : Command). with_reading x s (whole d)) named ∙ ap (λ (b : Bool). if b (joined s a) s) (sym f ∙ t))

pub others : (B : List ℕ) (at : ℕ) (x : List ℕ) (s : Bearers) (c : CodeCommand) → ((x : ℕ) → c ≡ Name x → ⊥)
    → s ≡ with_reading x s (whole (command_of B at c))
unfolding with_reading command_of_in
others B at x s (Site m n b w) k = refl
others B at x s Leaf k = refl
others B at x s (Condition i) k = refl
others B at x s Test k = refl
others B at x s Forbidden k = refl
others B at x s (Give g b j) k = refl
others B at x s (Name b) k = absurd (k b refl)
others B at x s End k = refl

-- ---- one turn

pub record Pass (B x : List ℕ) (at : ℕ) (s : Bearers) : Type 0 where
  pub fuel : ℕ
  pub enough : length B - at < fuel
  pub tallies : tally x s (readings_from B fuel at) ≡ tally x Nobody (readings B)

pub pass_starts : (B x : List ℕ) → Pass B x 0 Nobody
unfolding readings_in
pass_starts B x = record { fuel = suc (length B); enough = omega arith; tallies = refl }

module _ {B x : List ℕ} {at : ℕ} {s : Bearers} (w : Pass B x at s) where
  first : (r : Read) → r ≡ read_at B at → (n : ℕ) × (length B - at < suc n) × (tally x s (from_first B at n r) ≡ tally x Nobody (readings B))
  first = opened (tally x s) (tally x Nobody (readings B)) B at w.fuel w.enough w.tallies

  -- no whole command
  pub pass_stops : (r : CodeRead) → ((d : CodeCommand) → r ≡ Ok d → ⊥) → read_of B at r ≡ read_at B at → s ≡ tally x Nobody (readings B)
  unfolding read_of_in tally with_reading goes_on
  pass_stops (Ok c) k e = absurd (k c refl)
  pass_stops (Err Unknown) k e = (first unknown e).2
  pass_stops (Err Short) k e = (first short e).2

  pub pass_ends : (c : CodeCommand) → whole (command_of B at c) ≡ read_at B at → is_end c ≡ true → s ≡ tally x Nobody (readings B)
  unfolding tally with_reading goes_on
  pass_ends c e i = (first (whole end_model) (ap whole (sym (at_end B at c i)) ∙ e)).2

  pub pass_on : (c : CodeCommand) (next : ℕ) {t : Bearers} → whole (command_of B at c) ≡ read_at B at → is_end c ≡ false → next ≡ next_at B at
      → t ≡ with_reading x s (whole (command_of B at c)) → Pass B x next t
  unfolding tally
  pass_on c next {t} e i g j =
      let o = first (whole (command_of B at c)) e in
      let h = forward B at (command_of B at c) next e g in
      let y = going B at c i in
      record {
        fuel = o.0;
        enough = omega (arith, o.1, h.1, h.2);
        tallies = ap (λ (t : Bearers). tally x t (readings_from B o.0 next)) j ∙ (rw (y.0, ← h.0) at o.2);
      }
