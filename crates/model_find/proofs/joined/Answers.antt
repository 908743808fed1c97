-- `model_find::joined` meets its contract.
use mathlib.Core.Path.{sym, ap}
use Rattle.model_find.specs.declared.Bearers.{Bearers}
use Rattle.model_find.specs.Tally.{joined}
use Rattle.model_find.proofs.joined.Goals as goal

pub returns-in-Nobody : goal.returns-in-Nobody
unfolding joined
returns-in-Nobody c = sym (ap (λ (s : Bearers). joined s c.args.action) c.in-Nobody.is)

pub returns-in-One : goal.returns-in-One
unfolding joined
returns-in-One c = sym (ap (λ (s : Bearers). joined s c.args.action) c.in-One.is)

pub returns-in-Several : goal.returns-in-Several
unfolding joined
returns-in-Several c = sym (ap (λ (s : Bearers). joined s c.args.action) c.in-Several.is)
