-- `load_command::choice` meets its contract.
use Rattle.model_stack.specs.Held.{held}
use Rattle.load_choose.specs.CommandTest.{test_at}
use Rattle.load_command.proofs.Steps.{chosen, low_fits, high_fits, small_ran}
use Rattle.load_command.proofs.choice.Goals as goal

pub choose_command-m-requires : goal.choose_command-m-requires
choose_command-m-requires c = (
  c.requires.0,
  c.requires.1,
  high_fits (held c.args.s.stack) (held c.pop-rest.result) c.pop-rest.ensures c.top-high.ensures
      c.requires.2,
  low_fits (held c.args.s.stack) c.top-low.ensures c.requires.3,
)

pub put-requires : goal.put-requires
put-requires c = small_ran c.choose_command-m.ensures

pub returns : goal.returns
returns c = chosen (test_at c.args.model.now c.args.at) (held c.args.s.stack) (held c.pop-rest.result) (held c.pop.result)
    c.top-low.ensures c.pop-rest.ensures c.top-high.ensures c.pop.ensures c.choose_command-m.ensures c.put.ensures
