use mathlib.Core.Path.{◌≡◌, sym, ap, ◌∙◌, subst}
use mathlib.Core.Bool.{true}
use lib.Dec.{T}
use lib.IntN.{pos}
use lib.Signed.{non_neg}
use Rattle.rule_node.specs.Nodes.{first_of}
use Rattle.table.specs.Table.{eq_ℤ}
use Rattle.table.specs.declared.Node.{Node}
use Rattle.rule_compose_entry.specs.Entry.{condition_in}
use Rattle.rule_compose_entry.proofs.condition_at.Goals as goal

pub condition_of-requires : goal.condition_of-requires
condition_of-requires c = subst (λ (x : Node). eq_ℤ x.kind (pos 1) ≡ true → T (non_neg (first_of x))) (sym c.get.ensures) c.requires.1

pub returns : goal.returns
returns c = c.condition_of.ensures ∙ ap condition_in c.get.ensures
