-- `collect_mark::below` meets its contract: the three cases of `mark_step`: not marked, a leaf, or two branches, which lie below the node and so in the words.
use native.Mathlib.Omega.{arith}
use lib.ListN.{length-set}
use Rattle.collect_mark.proofs.Steps.{step_zero, step_leaf, step_branch, high_less, low_less}
use Rattle.collect_mark.proofs.below.Goals as goal

pub returns-then-work-i-eq0 : goal.returns-then-work-i-eq0
returns-then-work-i-eq0 c = step_zero c.args.nodes.now c.args.work.now c.args.i c.if-work-i-eq0.true

pub returns-then-is_leaf : goal.returns-then-is_leaf
returns-then-is_leaf c = step_leaf c.args.nodes.now c.args.work.now c.args.i c.if-work-i-eq0.false c.get-x.ensures c.is_leaf.ensures c.if-is_leaf.true

pub offset_bounds-work-h : goal.offset_bounds-work-h
offset_bounds-work-h c = let q = high_less c.args.nodes.now c.args.work.now c.args.i c.if-work-i-eq0.false c.get-x.ensures c.is_leaf.ensures c.if-is_leaf.false c.requires.3 c.high-h.ensures in
    let f = c.requires.2 in omega arith

pub bounds-work-h : goal.bounds-work-h
bounds-work-h c = let q = high_less c.args.nodes.now c.args.work.now c.args.i c.if-work-i-eq0.false c.get-x.ensures c.is_leaf.ensures c.if-is_leaf.false c.requires.3 c.high-h.ensures in
    let f = c.requires.1 in omega arith

pub offset_bounds-work-l : goal.offset_bounds-work-l
offset_bounds-work-l c = let q = low_less c.args.nodes.now c.args.work.now c.args.i c.if-work-i-eq0.false c.get-x.ensures c.is_leaf.ensures c.if-is_leaf.false c.requires.3 c.low-l.ensures in
    let f = c.requires.2 in omega arith

pub bounds-work-l : goal.bounds-work-l
bounds-work-l c = let q = low_less c.args.nodes.now c.args.work.now c.args.i c.if-work-i-eq0.false c.get-x.ensures c.is_leaf.ensures c.if-is_leaf.false c.requires.3 c.low-l.ensures in
    simp length-set (let f = c.requires.1 in omega arith)

pub returns : goal.returns
returns c = step_branch c.args.nodes.now c.args.work.now c.args.i c.if-work-i-eq0.false c.get-x.ensures c.is_leaf.ensures c.if-is_leaf.false c.high-h.ensures c.low-l.ensures
