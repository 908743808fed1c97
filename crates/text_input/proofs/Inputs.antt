-- Laws of what is printed for an input: by its length, its horizon byte and the rest.
use mathlib.Core.Path.{◌≡◌, refl, sym, ap, ◌∙◌}
use mathlib.Core.Bool.{Bool, true, false}
use mathlib.Core.List.{List, [], ◌∷◌}
use Prim.Native.Nat.{ℕ, suc, ◌+◌, ◌≤◌, ◌<◌}
use native.Mathlib.Omega.{arith}
use borrow.Author.Tests.{lt-ltb}
use lib.Dec.{ltb}
use lib.ListN.{length, take}
use lib.Seq.{length-take-le}
use Rattle.std.proofs.Common.{Some, None}
use Rattle.std.specs.List.{slice_get}
use Rattle.whole.specs.Cases.{if}
use Rattle.theory.specs.Verdict.{refusal}
use Rattle.theory.specs.Listing.{refusal_line}
use Rattle.text_input.specs.Printed.{model_most, tables_printed, plan_printed, horizon_of, model_of, program}

-- ---- by the model's length

module _ (B : List ℕ) (H : ℕ) where
  abbrev by_length : Bool → List ℕ
  by_length b = if b (refusal_line (refusal 10 0)) (tables_printed B H)

  pub longer : {t : List ℕ} → ltb model_most (length B) ≡ true → t ≡ refusal_line (refusal 10 0) → t ≡ plan_printed B H
  unfolding plan_printed
  longer h e = e ∙ sym (ap by_length h)

  pub no_longer : {t : List ℕ} → ltb model_most (length B) ≡ false → t ≡ tables_printed B H → t ≡ plan_printed B H
  unfolding plan_printed
  no_longer h e = e ∙ sym (ap by_length h)

-- ---- the input's parts

pub no_byte : (input : List ℕ) → None ≡ slice_get input 0 → 0 ≡ horizon_of input
unfolding horizon_of
no_byte [] e = refl
no_byte (x ∷ l) e = absurd (let z : ◌≡◌ {A = ℕ} 0 1 = cc in omega arith)

pub first_byte : (input : List ℕ) {h : ℕ} → Some h ≡ slice_get input 0 → h ≡ horizon_of input
unfolding horizon_of
first_byte [] e = absurd (let z : ◌≡◌ {A = ℕ} 0 1 = cc in omega arith)
first_byte (x ∷ l) e = cc

pub no_model : (input : List ℕ) → length input ≡ 0 → input ≡ model_of input
unfolding model_of
no_model [] e = refl
no_model (x ∷ l) e = absurd (omega arith)

pub behind_first : {input B : List ℕ} {horizon : ℕ} → input ≡ horizon ∷ B → B ≡ model_of input
unfolding model_of
behind_first e = sym (ap model_of e)

pub given : (input : List ℕ) {B t : List ℕ} {h : ℕ} → B ≡ model_of input → h ≡ horizon_of input → t ≡ plan_printed B h → t ≡ program input
unfolding program
given input e f g = g ∙ (λ i. plan_printed (e i) (f i))

-- ---- bytes behind the room decide nothing

cut : (n : ℕ) (input : List ℕ) → model_most < n → suc n ≤ length input → program (take (suc n) input) ≡ program input
unfolding program horizon_of model_of
cut n [] k h = refl
cut n (x ∷ B) k h =
    let e = length-take-le n B (omega arith) in
    sym (longer (take n B) x (lt-ltb model_most (length (take n B)) (omega arith)) refl) ∙ longer B x (lt-ltb model_most (length B) (omega arith)) refl

-- the program reads a horizon byte and one byte more than it takes: of a longer input it prints what it would of the whole
pub rest_unread : (input : List ℕ) → model_most + 2 ≤ length input → program (take (model_most + 2) input) ≡ program input
rest_unread input h = cut (model_most + 1) input (omega arith) h
