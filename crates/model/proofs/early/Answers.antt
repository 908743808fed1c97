-- `model::early` meets its contract: the tests are those of `early` in its order: sizes, then steps, and then the verdict of the model.
use mathlib.Core.Logic.{inl, inr}
use borrow.Author.Tests.{ne_eqb, lt-ltb, le-ltb, le-leb, lt-leb}
use Rattle.theory.specs.Solve.{early}
use Rattle.theory.specs.Widths.{bytes_most}
use Rattle.theory.specs.Valid.{among}
use Rattle.model.proofs.early.Goals as goal

pub returns-then-stage_words-ne-STAGE_WORDS : goal.returns-then-stage_words-ne-STAGE_WORDS
unfolding early
returns-then-stage_words-ne-STAGE_WORDS c = elim c.then-stage_words-ne-STAGE_WORDS.either [
  | inl h ↦ rw (ne_eqb _ _ h) c.refusal.ensures
  | inr h ↦ rw (h.0, lt-ltb bytes_most _ h.1) c.refusal.ensures
]

pub returns-then-steps-lt1 : goal.returns-then-steps-lt1
unfolding early among
returns-then-steps-lt1 c = elim c.then-steps-lt1.either [
  | inl h ↦ rw (c.if-stage_words-ne-STAGE_WORDS.false, le-ltb bytes_most _ c.if-model-gt-BYTES_MOST.false, lt-leb 1 _ h) c.refusal-then-steps-lt1.ensures
  | inr h ↦ rw (c.if-stage_words-ne-STAGE_WORDS.false, le-ltb bytes_most _ c.if-model-gt-BYTES_MOST.false, le-leb 1 _ h.0, lt-leb _ 8 h.1) c.refusal-then-steps-lt1.ensures
]

pub returns : goal.returns
unfolding early among
returns c = rw (c.if-stage_words-ne-STAGE_WORDS.false, le-ltb bytes_most _ c.if-model-gt-BYTES_MOST.false, le-leb 1 _ c.if-steps-lt1.false, le-leb _ 8 c.if-steps-gt-STEPS_MOST.false) c.validate.ensures
