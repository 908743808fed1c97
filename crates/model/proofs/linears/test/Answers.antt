-- `model::linears::test` meets its contract.
use Rattle.model_form.specs.Forms.{form_of}
use Rattle.model.proofs.LinearTurns.{test_passed}
use Rattle.model.proofs.linears.test.Goals as goal

pub returns-then-test-ne0 : goal.returns-then-test-ne0
returns-then-test-ne0 c = λ b. tt

pub returns : goal.returns
returns c = λ b. (
  c.requires.1,
  λ F w. test_passed (form_of c.args.form) c.args.model.now c.args.at c.requires.1 b w c.requires.0 c.test.result
      c.joined.result (c.test.ensures F) c.if-test-ne0.false c.joined.ensures,
)
