use mathlib.Core.Path.{sym, ◌∙◌, refl}
use native.Mathlib.Omega.{arith}
use Rattle.import_going.proofs.Steps.{on_seen, on_depth, seen_end}
use Rattle.import_going.proofs.bracket.is_cond.Goals as goal

pub loop-i-init : goal.loop-i-init
loop-i-init c = record { within = c.requires.0; shallows = omega arith; rest = refl }

pub see-requires : goal.see-requires
see-requires c = let a = c.loop-i.invariant.shallows in let b = c.loop-i.invariant.within in omega (arith, c.requires.1)

pub loop-i-preserved : goal.loop-i-preserved
loop-i-preserved c = let e = sym c.in-Continue.is ∙ c.see.ensures in
    let d = on_depth c.loop-i.depth c.in-Continue.d _ e in
    let h = c.loop-i.invariant.shallows in
    record {
      within = omega (arith, c.loop-i-test.true);
      shallows = omega arith;
      rest = sym (on_seen _ c.loop-i.depth c.loop-i.i _ c.loop-i-test.true e) ∙ c.loop-i.invariant.rest;
    }

pub returns-in-Break : goal.returns-in-Break
returns-in-Break c = sym (on_seen _ c.loop-i.depth c.loop-i.i _ c.loop-i-test.true (sym c.in-Break.is ∙ c.see.ensures)) ∙ c.loop-i.invariant.rest

pub returns : goal.returns
returns c = seen_end _ _ c.loop-i.depth c.loop-i.i c.loop-i.invariant c.loop-i-test.false
