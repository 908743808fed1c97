-- `rule_compose_entry::condition_of` meets its contract: the node's kind decides, and then whether its number is above 4, a condition of the next step.
use mathlib.Core.Path.{sym, subst}
use native.Mathlib.Omega.{arith}
use lib.Dec.{T}
use Rattle.rule_node.specs.Nodes.{first_of}
use lib.IntN.{ℤ}
use lib.Signed.{non_neg}
use Rattle.table.proofs.Words.{back}
use Rattle.table.proofs.Tests.{kind_yes, kind_no, abs_of}
use Rattle.rule_compose_entry.proofs.Entries.{condition_none, found_later, found_now}
use Rattle.rule_compose_entry.proofs.condition_of.Goals as goal

pub index-k-requires : goal.index-k-requires
index-k-requires c = subst (λ (z : ℤ). T (non_neg z)) (sym (back (first_of c.args.x) c.z-1.given)) (c.requires (kind_yes 1 (omega arith) c.args.x.kind c.struct_told-1.given.0.1 c.if-x-eq1.true))

pub returns-then-k-gt4 : goal.returns-then-k-gt4
returns-then-k-gt4 c = found_later c.args.x (abs_of (first_of c.args.x) c.z-1.given c.index-k.ensures)
    (kind_yes 1 (omega arith) c.args.x.kind c.struct_told-1.given.0.1 c.if-x-eq1.true) c.if-k-gt4.true

pub returns-then-x-eq1 : goal.returns-then-x-eq1
returns-then-x-eq1 c = found_now c.args.x (abs_of (first_of c.args.x) c.z-1.given c.index-k.ensures)
    (kind_yes 1 (omega arith) c.args.x.kind c.struct_told-1.given.0.1 c.if-x-eq1.true) c.if-k-gt4.false

pub returns : goal.returns
returns c = sym (condition_none c.args.x (kind_no 1 c.args.x.kind c.if-x-eq1.false))
