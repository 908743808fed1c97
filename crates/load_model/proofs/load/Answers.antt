use mathlib.Core.Path.{refl, sym, ◌∙◌}
use native.Mathlib.Omega.{arith}
use borrow.Author.Rules.{rules}
use Rattle.model.proofs.Walk.{whole_is, forward}
use Rattle.load_model.proofs.Turns.{turn_none, turn_end, ready, turn_stops, turn_on, placed}
use Rattle.load_model.proofs.Ends.{walk_starts, ends_loaded, stops_loaded}
use Rattle.load_model.proofs.load.Goals as goal

pub loop-c-init : goal.loop-c-init
loop-c-init c = (walk_starts c.requires.0 c.requires.1 c.requires.2 c.requires.3 c.next_after-at.ensures c.start-s.ensures, refl, refl, refl)

pub shape_of-nodes-in_default : goal.shape_of-nodes-in_default
shape_of-nodes-in_default c = c.loop-c.invariant.1

pub shape_of-work-in_default : goal.shape_of-work-in_default
shape_of-work-in_default c = c.loop-c.invariant.2

pub shape_of-roots-in_default : goal.shape_of-roots-in_default
shape_of-roots-in_default c = c.loop-c.invariant.3

pub returns-in_default : goal.returns-in_default
returns-in_default c = turn_none c.loop-c.invariant.0 c.command_at-read.result c.command_at-read.ensures c.in_default.not-Ok

pub shape_of-nodes-then-is_end : goal.shape_of-nodes-then-is_end
shape_of-nodes-then-is_end c = c.loop-c.invariant.1

pub shape_of-work-then-is_end : goal.shape_of-work-then-is_end
shape_of-work-then-is_end c = c.loop-c.invariant.2

pub shape_of-roots-then-is_end : goal.shape_of-roots-then-is_end
shape_of-roots-then-is_end c = c.loop-c.invariant.3

pub returns-then-is_end : goal.returns-then-is_end
returns-then-is_end c = let e = whole_is c.args.model.now c.loop-c.at c.command_at-read.ensures c.in-Ok.is in
    let t = turn_end c.loop-c.invariant.0 _ e (sym c.is_end.ensures ∙ c.if-is_end.true) in
    ends_loaded c.loop-c.invariant.0 t.0 t.1

pub store-requires : goal.store-requires
store-requires c = c.loop-c.invariant.0.room

pub step-s-requires : goal.step-s-requires
step-s-requires c = ready c.loop-c.invariant.0 _ (whole_is c.args.model.now c.loop-c.at c.command_at-read.ensures c.in-Ok.is)

pub shape_of-nodes-then-s-ne0 : goal.shape_of-nodes-then-s-ne0
shape_of-nodes-then-s-ne0 c = search (rules, c.store.auto, c.step-s.auto, c.loop-c.invariant.1, c.loop-c.invariant.2, c.loop-c.invariant.3)

pub shape_of-work-then-s-ne0 : goal.shape_of-work-then-s-ne0
shape_of-work-then-s-ne0 c = search (rules, c.store.auto, c.step-s.auto, c.loop-c.invariant.1, c.loop-c.invariant.2, c.loop-c.invariant.3)

pub shape_of-roots-then-s-ne0 : goal.shape_of-roots-then-s-ne0
shape_of-roots-then-s-ne0 c = search (rules, c.store.auto, c.step-s.auto, c.loop-c.invariant.1, c.loop-c.invariant.2, c.loop-c.invariant.3)

pub returns-then-s-ne0 : goal.returns-then-s-ne0
returns-then-s-ne0 c = let e = whole_is c.args.model.now c.loop-c.at c.command_at-read.ensures c.in-Ok.is in
    stops_loaded _ c.step-s.ensures.table (turn_stops c.loop-c.invariant.0 _ e c.step-s.ensures c.if-s-ne0.true) c.if-s-ne0.true

pub loop-c-smaller : goal.loop-c-smaller
loop-c-smaller c = let f = forward c.args.model.now c.loop-c.at _ c.next_after-at-in-loop-c.result
    (whole_is c.args.model.now c.loop-c.at c.command_at-read.ensures c.in-Ok.is) c.next_after-at-in-loop-c.ensures in
    omega (arith, f.1, f.2)

pub loop-c-preserved : goal.loop-c-preserved
loop-c-preserved c = let e = whole_is c.args.model.now c.loop-c.at c.command_at-read.ensures c.in-Ok.is in (
  turn_on c.loop-c.invariant.0 _ e c.step-s.ensures c.next_after-at-in-loop-c.result c.top-x.result (sym c.is_end.ensures ∙ c.if-is_end.false)
      c.next_after-at-in-loop-c.ensures c.if-s-ne0.false c.top-x.ensures
      (placed c.args.model.now c.site-operands.result _ c.loop-c.roots c.top-x.result c.site-operands.ensures
      (c.place.ensures c.args.model.now c.loop-c.at) c.store.ensures)
      (c.ended_by-ended.ensures c.args.model.now c.loop-c.at),
  c.step-s.auto.nodes ∙ c.loop-c.invariant.1,
  c.step-s.auto.work ∙ c.loop-c.invariant.2,
  c.store.auto.roots ∙ c.loop-c.invariant.3,
)
