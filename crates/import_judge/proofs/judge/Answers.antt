-- `import_judge::judge` meets its contract: one law for each way out, in the order of `text_refusal`: a long text, a byte outside the language at the
-- place where the scan stops, and then whether the text is beyond the limits.
use mathlib.Core.Path.{ap, sym, ◌∙◌}
use mathlib.Core.Bool.{Bool}
use Rattle.whole.specs.Cases.{if}
use Rattle.theory.specs.Verdict.{refusal}
use Rattle.import_judge.proofs.Judged.{shown_as, long_text, outside, inside}
use Rattle.import_judge.proofs.judge.Goals as goal

pub returns-then-text-gt-TEXT_MOST : goal.returns-then-text-gt-TEXT_MOST
returns-then-text-gt-TEXT_MOST c = shown_as c.refusal.result _ _ c.refusal.ensures ∙ long_text c.args.text.now c.if-text-gt-TEXT_MOST.true

pub returns-in-Err : goal.returns-in-Err
returns-in-Err c = shown_as c.refusal-in-Err.result _ _ c.refusal-in-Err.ensures
    ∙ outside c.args.text.now c.if-text-gt-TEXT_MOST.false _ (sym c.scan.ensures ∙ c.in-Err.is)

pub returns-then-beyond : goal.returns-then-beyond
returns-then-beyond c = shown_as c.refusal-then-beyond.result _ _ c.refusal-then-beyond.ensures
    ∙ ap (λ (b : Bool). if b (refusal 25 0) (refusal 0 0)) (sym c.if-beyond.true)
    ∙ inside c.args.text.now c.if-text-gt-TEXT_MOST.false (sym c.scan.ensures ∙ c.in_default.is) c.beyond.result c.beyond.ensures

pub returns-else-beyond : goal.returns-else-beyond
returns-else-beyond c = shown_as c.refusal-else-beyond.result _ _ c.refusal-else-beyond.ensures
    ∙ ap (λ (b : Bool). if b (refusal 25 0) (refusal 0 0)) (sym c.if-beyond.false)
    ∙ inside c.args.text.now c.if-text-gt-TEXT_MOST.false (sym c.scan.ensures ∙ c.in_default.is) c.beyond.result c.beyond.ensures
