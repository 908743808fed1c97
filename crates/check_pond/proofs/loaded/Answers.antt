-- `check_pond::loaded` meets its contract: zeros in the work words make an empty table, and what is loaded into it stands.
use Rattle.std.proofs.Common.{◌∙◌, arith}
use Rattle.load_choose.specs.CommandTest.{load_rule}
use Rattle.solve_value_iteration.proofs.Start.{wiped_table}
use Rattle.check_pond.proofs.Operations as operations
use Rattle.check_pond.proofs.loaded.Goals as goal

pub load-done-requires : goal.load-done-requires
load-done-requires g c =
    (c.requires.0, c.requires.1, wiped_table (load_rule c.args.model.now) c.requires.2 c.words_from.ensures c.words_from.auto.words, omega (arith, c.requires.3))

pub returns-clause-ok : goal.returns-clause-ok
returns-clause-ok g c = λ ok. operations.loaded c.requires.0 c.load-done.ensures (c.load-done.auto.roots ∙ c.requires.3) c.model_size-held.ensures.0 ok
