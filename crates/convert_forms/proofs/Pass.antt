-- One pass over the commands, with fuel enough for the rest.
use mathlib.Core.Path.{◌≡◌, refl, sym, ap, ◌∙◌}
use mathlib.Core.Bool.{Bool, true, false, not}
use mathlib.Core.List.{List, [], ◌++◌, append_assoc, append-nil}
use Prim.Native.Nat.{ℕ, zero, suc, ◌+◌, ◌*◌, ◌≤◌, ◌<◌}
use native.Mathlib.Omega.{arith}
use lib.Dec.{T, ltb, leb, ltb→lt, leb→le}
use lib.ListN.{length, length-append}
use Rattle.whole.specs.Cases.{by_test, clash}
use Rattle.theory.specs.Form.{Form}
use Rattle.theory.specs.Command.{byte_at, width_in, read_in, goes_on, readings_from_in, readings_in}
use Rattle.theory.specs.Rows.{WholeIn}
use Rattle.theory.proofs.laws.AcceptedModel.{behind_in}
use Rattle.theory.proofs.laws.Rows.{by_read_in, if_no}
use Rattle.model_command.specs.CursorReadings.{CodeRead}
use Rattle.model_command.specs.CursorReadings.{next_in, read_of_in}
use Rattle.text_decimal.specs.Put.{PutAt}
use Rattle.text_decimal.proofs.Puts.{none, then, rename}
use Rattle.convert_forms.specs.Forms.{converted, converted_all, model_as}
use Rattle.convert_forms.specs.OperandLayouts.{converted_length, reads_on}
use Rattle.convert_forms.proofs.Operands.{converted_long, length_most}
use Rattle.convert_forms.proofs.ReadingSteps.{goes_as}

-- the commands before an offset are done; those from it on are left
pub record Pass (F G : Form) (B : List ℕ) (at : ℕ) (done : List ℕ) : Type 0 where
  pub fuel : ℕ
  pub enough : length B < at + fuel
  pub inside : at ≤ length B
  pub whole_is : done ++ converted_all F G B (readings_from_in F B fuel at) ≡ model_as F G B

pub pass_starts : (F G : Form) (B : List ℕ) → Pass F G B 0 []
unfolding model_as readings_in
pass_starts F G B = record { fuel = suc (length B); enough = omega arith; inside = omega arith; whole_is = refl }

-- a reading that goes on is whole, and the next offset is behind it
pub going_whole : (F : Form) (B : List ℕ) (at : ℕ) → goes_on (read_in F B at) ≡ true → WholeIn F B at
unfolding goes_on
going_whole F B at = by_read_in F B at (λ r. goes_on r ≡ true → WholeIn F B at) (λ _ e. clash (sym e)) (λ _ _ e. clash (sym e)) (λ _ _ _ e. clash (sym e)) (λ w _. w)

pub next_is : (F : Form) (B : List ℕ) (at : ℕ) → WholeIn F B at → next_in F B at ≡ at + width_in F (byte_at B at)
unfolding next_in
next_is F B at w =
    let n = at + width_in F (byte_at B at) in
    if_no (leb (length B) at) (length B) _ (above (length B) at (omega (arith, w.known, w.inside))) ∙ if_no (ltb (length B) n) (length B) n (at_most n (length B) w.inside)
  where
    above : (n k : ℕ) → k < n → T (not (leb n k))
    above n k h = by_test (leb n k) (λ b. T (not b)) (λ t. absurd (omega (arith, leb→le n k t))) (λ _. tt)

    at_most : (n k : ℕ) → n ≤ k → T (not (ltb k n))
    at_most n k h = by_test (ltb k n) (λ b. T (not b)) (λ t. absurd (omega (arith, ltb→lt k n t))) (λ _. tt)

module _ {F G : Form} {B : List ℕ} {at : ℕ} {done : List ℕ} (p : Pass F G B at done) where
  -- one more command of those that are left
  opened : (n : ℕ) × (length B < at + suc n) × ((done ++ converted F G B at) ++ converted_all F G B (behind_in F B n at (goes_on (read_in F B at))) ≡ model_as F G B)
  unfolding readings_from_in converted_all
  opened = go p.fuel p.enough p.whole_is
    where
      go : (k : ℕ) → length B < at + k → done ++ converted_all F G B (readings_from_in F B k at) ≡ model_as F G B
          → (n : ℕ) × (length B < at + suc n) × ((done ++ converted F G B at) ++ converted_all F G B (behind_in F B n at (goes_on (read_in F B at))) ≡ model_as F G B)
      go zero h e = absurd (omega (arith, p.inside))
      go (suc n) h e = (n, h, append_assoc done (converted F G B at) _ ∙ e)

  -- no byte of the rest is beyond the whole
  pub pass_room : length done + length (converted F G B at) ≤ length (model_as F G B)
  pass_room =
      let o = opened in
      let l = ap length o.2 in
      omega (arith, l, length-append (done ++ converted F G B at) (converted_all F G B (behind_in F B o.0 at (goes_on (read_in F B at)))), length-append done (converted F G B at))

  pub pass_stops : goes_on (read_in F B at) ≡ false → done ++ converted F G B at ≡ model_as F G B
  unfolding converted_all
  pass_stops e =
      let o = opened in
      sym (append-nil (done ++ converted F G B at)) ∙ ap (λ (b : Bool). (done ++ converted F G B at) ++ converted_all F G B (behind_in F B o.0 at b)) (sym e) ∙ o.2

  pub pass_on : goes_on (read_in F B at) ≡ true → (next : ℕ) → next ≡ next_in F B at → Pass F G B next (done ++ converted F G B at) × (at < next)
  pass_on e next d =
      let o = opened in
      let w = going_whole F B at e in
      let n : next ≡ at + width_in F (byte_at B at) = d ∙ next_is F B at w in (
        record {
          fuel = o.0;
          enough = omega (arith, o.1, n, w.known);
          inside = omega (arith, n, w.inside);
          whole_is = ap (λ (k : ℕ). (done ++ converted F G B at) ++ converted_all F G B (readings_from_in F B o.0 k)) n
              ∙ ap (λ (b : Bool). (done ++ converted F G B at) ++ converted_all F G B (behind_in F B o.0 at b)) (sym e) ∙ o.2;
        },
        omega (arith, n, w.known),
      )

-- ---- the length

-- n bytes for the commands before an offset
pub record Counted (F G : Form) (B : List ℕ) (at n : ℕ) : Type 0 where
  pub done : List ℕ
  pub pass : Pass F G B at done
  pub size : n ≡ length done
  pub few : n ≤ at * 128

pub count_starts : (F G : Form) (B : List ℕ) → Counted F G B 0 0
count_starts F G B = record { done = []; pass = pass_starts F G B; size = refl; few = omega arith }

module _ {F G : Form} {B : List ℕ} {at n : ℕ} (w : Counted F G B at n) (op m : ℕ) (e : op ≡ byte_at B at) (d : m ≡ converted_length F G op) where
  one_long : length (converted F G B at) ≡ m
  one_long = converted_long F G B at ∙ ap (converted_length F G) (sym e) ∙ sym d

  more : length (w.done ++ converted F G B at) ≡ n + m
  more = omega (arith, length-append w.done (converted F G B at), one_long, w.size)

  pub count_few : n + m ≤ at * 128 + 128
  count_few = omega (arith, w.few, d, length_most F G op)

  pub count_on : goes_on (read_in F B at) ≡ true → (next : ℕ) → next ≡ next_in F B at → Counted F G B next (n + m) × (at < next)
  count_on t next f =
      let p = pass_on w.pass t next f in
      (record { done = w.done ++ converted F G B at; pass = p.0; size = sym more; few = omega (arith, count_few, p.1) }, p.1)

  pub count_ends : goes_on (read_in F B at) ≡ false → n + m ≡ length (model_as F G B)
  count_ends t = sym more ∙ ap length (pass_stops w.pass t)

-- ---- the bytes

-- the commands before an offset are written
pub record Wrote (F G : Form) (B l : List ℕ) (at next : ℕ) (after : List ℕ) : Type 0 where
  pub done : List ℕ
  pub pass : Pass F G B at done
  pub put : PutAt l 0 done next after
  pub long : length after ≡ length l

pub write_starts : (F G : Form) (B l : List ℕ) → Wrote F G B l 0 0 l
write_starts F G B l = record { done = []; pass = pass_starts F G B; put = none l 0; long = refl }

module _ {F G : Form} {B l : List ℕ} {at next : ℕ} {after : List ℕ} (w : Wrote F G B l at next after) where
  pub write_room : length (model_as F G B) ≤ length l → next + length (converted F G B at) ≤ length after
  write_room h = omega (arith, w.put.behind, w.long, pass_room w.pass)

  module _ (r : ℕ) (left : List ℕ) (p : PutAt after next (converted F G B at) r left) (k : length left ≡ length after) where
    pub write_on : goes_on (read_in F B at) ≡ true → (to : ℕ) → to ≡ next_in F B at → Wrote F G B l to r left × (at < to)
    write_on t to f =
        let q = pass_on w.pass t to f in
        (record { done = w.done ++ converted F G B at; pass = q.0; put = then (omega arith) w.put p; long = k ∙ w.long }, q.1)

    pub write_ends : goes_on (read_in F B at) ≡ false → PutAt l 0 (model_as F G B) r left
    write_ends t = rename (pass_stops w.pass t) (then (omega arith) w.put p)

-- what the code's test says of the reading
pub goes : (F : Form) (B : List ℕ) (at : ℕ) (r : CodeRead) (b c : Bool) → read_of_in F B at r ≡ read_in F B at → b ≡ reads_on r → b ≡ c → goes_on (read_in F B at) ≡ c
goes F B at r b c e d f = sym (goes_as F B at r e) ∙ sym d ∙ f
