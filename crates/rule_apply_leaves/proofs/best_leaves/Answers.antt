-- `rule_apply_leaves::best_leaves` meets its contract: "none" loses to any other leaf; where neither is "none" both are linears, which `best_linears` requires.
use mathlib.Core.Path.{sym, ◌∙◌}
use Rattle.rule_apply_leaves.proofs.LeafPairs.{best_first, best_second}
use Rattle.rule_apply_leaves.proofs.best_leaves.Goals as goal

pub returns-then-first_loses : goal.returns-then-first_loses
returns-then-first_loses c = best_second c.requires.0 c.args.f c.args.g c.requires.1 c.requires.2 c.none_at-first_loses.ensures c.if-first_loses.true

pub returns-then-second_loses : goal.returns-then-second_loses
returns-then-second_loses c = best_first c.requires.0 c.args.f c.args.g c.requires.1 c.requires.2 c.none_at-second_loses.ensures c.if-second_loses.true

pub best_linears-requires : goal.best_linears-requires
best_linears-requires c = (c.requires.0, record { leaf = c.requires.1; linear = sym c.none_at-first_loses.ensures ∙ c.if-first_loses.false }, record { leaf = c.requires.2; linear = sym c.none_at-second_loses.ensures ∙ c.if-second_loses.false })

pub returns : goal.returns
returns c = c.best_linears.ensures
