use mathlib.Core.Path.{sym, ◌∙◌}
use native.Mathlib.Omega.{arith}
use Rattle.table.specs.Table.{node_at}
use Rattle.finish_number.proofs.Enter.{c_lt, leaf_new, branch_lt, branch_new, was_there}
use Rattle.finish_number.proofs.+number.Goals as goal

pub assign-requires : goal.assign-requires
assign-requires t c =
    let g = c.requires.0.room in let i = c.requires.1 in let q = c_lt c.requires.0 c.requires.2 _ i c.if-work-cap-eq0.true in (c.requires.2.works, c.requires.0.few, omega arith, omega arith)

pub returns-then-is_leaf : goal.returns-then-is_leaf
returns-then-is_leaf t c =
    leaf_new c.requires.0 c.requires.2 _ c.requires.1 c.if-work-cap-eq0.true (sym c.is_leaf.ensures ∙ c.if-is_leaf.true) c.assign.ensures.0 c.assign.ensures.1

pub branch-nodes-requires : goal.branch-nodes-requires
unfolding node_at
branch-nodes-requires t c =
    let g = c.requires.0.room in let i = c.requires.1 in let q = c.requires.0.words in (omega arith, omega arith, (c.requires.0.good.valid _ i).high_nat)

pub number-h-requires : goal.number-h-requires
unfolding node_at
number-h-requires t c =
    let e = c.branch-nodes.ensures in let i = c.requires.1 in let b = (c.requires.0.good.valid _ i).high_below
    (sym c.is_leaf.ensures ∙ c.if-is_leaf.false) in (omega (arith, c.decreases), (c.requires.0, omega arith, c.requires.2))

pub branch-nodes-requires-then-work-cap-eq0 : goal.branch-nodes-requires-then-work-cap-eq0
unfolding node_at
branch-nodes-requires-then-work-cap-eq0 t c =
    let g = c.requires.0.room in let i = c.requires.1 in let q = c.requires.0.words in (omega arith, omega arith, (c.requires.0.good.valid _ i).low_nat)

pub number-l-requires : goal.number-l-requires
unfolding node_at
number-l-requires t c =
    let e = c.branch-nodes-then-work-cap-eq0.ensures in let i = c.requires.1 in let b = (c.requires.0.good.valid _ i).low_below
    (sym c.is_leaf.ensures ∙ c.if-is_leaf.false) in (omega (arith, c.decreases), (c.requires.0, omega arith, c.number-h.ensures.state))

pub assign-requires-then-work-cap-eq0 : goal.assign-requires-then-work-cap-eq0
unfolding node_at
assign-requires-then-work-cap-eq0 t c =
    let g = c.requires.0.room in let i = c.requires.1 in let q = branch_lt c.requires.0 c.requires.2 _ i c.if-work-cap-eq0.true
    (sym c.is_leaf.ensures ∙ c.if-is_leaf.false) c.branch-nodes.ensures c.branch-nodes-then-work-cap-eq0.ensures c.number-h.ensures
    c.number-l.ensures in (c.number-l.ensures.state.works, c.requires.0.few, omega arith, omega arith)

pub returns-then-work-cap-eq0 : goal.returns-then-work-cap-eq0
unfolding node_at
returns-then-work-cap-eq0 t c =
    branch_new c.requires.0 c.requires.2 _ c.requires.1 c.if-work-cap-eq0.true (sym c.is_leaf.ensures ∙ c.if-is_leaf.false)
    c.branch-nodes.ensures c.branch-nodes-then-work-cap-eq0.ensures c.number-h.ensures c.number-l.ensures c.assign-then-work-cap-eq0.ensures.0
    c.assign-then-work-cap-eq0.ensures.1

pub returns : goal.returns
returns t c = was_there c.requires.0 c.requires.2 _ c.requires.1 c.if-work-cap-eq0.false
