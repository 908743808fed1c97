-- `prune_certificate::paths::is_leaf` meets its contract.
use mathlib.Core.Path.{ap, ◌∙◌}
use native.Mathlib.Omega.{arith}
use Rattle.whole.proofs.Signed.{back}
use Rattle.table.specs.Table.{is_leaf}
use Rattle.prune_certificate.proofs.Rows.{row_inside, leaf_is}
use Rattle.prune_certificate.proofs.paths.is_leaf.Goals as goal

pub word-requires : goal.word-requires
word-requires c = (row_inside c.requires, omega arith)

pub returns : goal.returns
returns c = c.is_leaf.ensures ∙ (ap is_leaf (back _ (record { sfits = c.word.type_inv }) ∙ c.word.ensures) ∙ leaf_is c.requires)
