-- `import_deliver::own` meets its contract.
use Rattle.theory.specs.Solve.{early}
use Rattle.theory.specs.Valid.{among}
use Rattle.convert_model.specs.Conversion.{own_refusal}
use Rattle.import_deliver.proofs.own.Goals as goal

pub returns : goal.returns
unfolding early among own_refusal
returns c = c.early.ensures
