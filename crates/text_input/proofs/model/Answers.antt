-- `text_input::model` meets its contract.
use Rattle.text_input.proofs.Inputs.{no_model, behind_first}
use Rattle.text_input.proofs.model.Goals as goal

pub returns-in-Some : goal.returns-in-Some
returns-in-Some c = behind_first c.in-Some.ensures.cases.0

pub returns-in-None : goal.returns-in-None
returns-in-None c = no_model c.args.input.now c.in-None.ensures.cases
