-- `model::linears::leaf` meets its contract.
use Rattle.model_form.specs.Forms.{form_of}
use Rattle.model.proofs.LinearTurns.{leaf_passed}
use Rattle.model.proofs.linears.leaf.Goals as goal

pub returns-then-leaf-ne0 : goal.returns-then-leaf-ne0
returns-then-leaf-ne0 c = λ b. tt

pub returns : goal.returns
returns c = λ b. (
  c.requires.1,
  λ F w. leaf_passed (form_of c.args.form) c.args.model.now c.args.at c.requires.1 b w c.requires.0 c.leaf.result
      c.weight-weight.result c.pushed.result (c.leaf.ensures F) c.if-leaf-ne0.false c.weight-weight.ensures c.pushed.ensures,
)
