-- What the passes answer, in the terms of the definition.
use mathlib.Core.Path.{◌≡◌, sym, ap, ◌∙◌, subst}
use mathlib.Core.Bool.{Bool}
use mathlib.Core.List.{List}
use Prim.Native.Nat.{ℕ, ◌≤◌, ◌<◌}
use borrow.Author.Tests.{lt-ltb, le-ltb}
use lib.ListN.{length}
use Rattle.whole.specs.Cases.{if}
use Rattle.theory.specs.Verdict.{refusal}
use Rattle.model.specs.declared.Verdict.{Verdict as CodeVerdict}
use Rattle.model.specs.Answers.{shown}
use Rattle.import_grammar.specs.Reader.{begin}
use Rattle.import_grammar.specs.laws.Viable.{Outcome, fine, stops, scan, Right}
use Rattle.import_grammar.proofs.laws.Viable.{scan_right}
use Rattle.import_beyond.specs.Beyond.{JudgesText}
use Rattle.import_model.specs.Import.{text_most}
use Rattle.std.specs.Prelude.{Result, Ok, Err}
use Rattle.import_scan.specs.Answer.{answer}
use Rattle.import_judge.specs.Refusal.{outcome_refusal, text_refusal}

pub shown_as : (r : CodeVerdict) (k p : ℕ) → (r.number ≡ k) × (r.place ≡ p) → shown r ≡ refusal k p
shown_as r k p e = λ i. refusal (e.0 i) (e.1 i)

abbrev IsFine : Result (Unit {0}) ℕ → Type 0
IsFine (Ok u) = Unit {0}
IsFine (Err i) = ⊥

abbrev stop_of : Result (Unit {0}) ℕ → ℕ
stop_of (Ok u) = 0
stop_of (Err i) = i

stops_as : (o : Outcome) (i : ℕ) → answer o ≡ Err i → refusal 24 i ≡ outcome_refusal o
unfolding answer outcome_refusal
stops_as (fine t) i e = absurd (subst IsFine e tt)
stops_as (stops j) i e = λ k. refusal 24 (ap stop_of (sym e) k)

fine_as : (w : List ℕ) (o : Outcome) → Right w o → answer o ≡ Ok tt → (b : Bool) → JudgesText w b → (if b (refusal 25 0) (refusal 0 0)) ≡ outcome_refusal o
unfolding answer outcome_refusal
fine_as w (fine t) r e b j = ap (λ (c : Bool). if c (refusal 25 0) (refusal 0 0)) (j.judges t r)
fine_as w (stops i) r e b j = absurd (subst IsFine (sym e) tt)

module _ (w : List ℕ) where
  pub long_text : text_most < length w → refusal 10 0 ≡ text_refusal w
  unfolding text_refusal
  long_text h = sym (ap (λ (b : Bool). if b (refusal 10 0) (outcome_refusal (scan begin w 0))) (lt-ltb _ _ h))

  module _ (h : length w ≤ text_most) where
    scanned : outcome_refusal (scan begin w 0) ≡ text_refusal w
    unfolding text_refusal
    scanned = sym (ap (λ (b : Bool). if b (refusal 10 0) (outcome_refusal (scan begin w 0))) (le-ltb _ _ h))

    pub outside : (i : ℕ) → answer (scan begin w 0) ≡ Err i → refusal 24 i ≡ text_refusal w
    outside i e = stops_as (scan begin w 0) i e ∙ scanned

    pub inside : answer (scan begin w 0) ≡ Ok tt → (b : Bool) → JudgesText w b → (if b (refusal 25 0) (refusal 0 0)) ≡ text_refusal w
    inside e b j = fine_as w (scan begin w 0) (scan_right w) e b j ∙ scanned
