-- `model::linears::turn` meets its contract.
use borrow.Author.Rules.{rules}
use Rattle.model.proofs.linears.turn.Goals as goal

pub leaf-requires : goal.leaf-requires
leaf-requires c = (c.in-16.is, search rules)

pub test-requires : goal.test-requires
test-requires c = (c.in-18.is, search rules)

pub returns-in-16 : goal.returns-in-16
returns-in-16 c = c.leaf.ensures

pub returns-in-18 : goal.returns-in-18
returns-in-18 c = c.test.ensures
