-- `text_program::answer` meets its contract.
use Rattle.text_input.proofs.Inputs.{given}
use Rattle.text_program.proofs.answer.Goals as goal

pub returns : goal.returns
returns c = let p = c.plan in
    (p.ensures.0, given c.args.input.now c.model.ensures c.horizon.ensures p.ensures.1)
