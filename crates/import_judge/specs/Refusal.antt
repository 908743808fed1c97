-- What a text is refused with before its model is looked at.
use Rattle.std.specs.Prelude.{List, ℕ, ltb, length}
use Rattle.whole.specs.Cases.{if}
use Rattle.theory.specs.Verdict.{Verdict, refusal}
use Rattle.import_grammar.specs.Reader.{begin}
use Rattle.import_grammar.specs.laws.Viable.{Outcome, fine, stops, scan}
use Rattle.import_numbers.specs.Numbers.{beyond}
use Rattle.import_model.specs.Import.{text_most}

-- "text outside the grammar with 24 and the offset ..", "a number beyond signed 32 bits .. with 25 once the whole text is in the grammar"
unfoldable pub outcome_refusal : Outcome → Verdict
outcome_refusal (fine t) = if (beyond t) (refusal 25 0) (refusal 0 0)
outcome_refusal (stops i) = refusal 24 i

-- "It refuses text above 262,144 bytes with 10": before all else
unfoldable pub text_refusal : List ℕ → Verdict
unfolding outcome_refusal
text_refusal w = if (ltb text_most (length w)) (refusal 10 0) (outcome_refusal (scan begin w 0))
