use mathlib.Core.Path.{ap, ◌∙◌}
use lib.IntN.{pos}
use lib.ListN.{get_or}
use Rattle.table.proofs.Words.{back}
use Rattle.table.specs.declared.Node.{Node}
use Rattle.rule_combine.proofs.number.Goals as goal

pub returns : goal.returns
returns c = back (get_or c.get.result.n c.args.k (pos 0)) c.result-1.given ∙ ap (λ (x : Node). get_or x.n c.args.k (pos 0)) c.get.ensures
