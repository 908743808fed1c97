use mathlib.Core.Path.{sym, ◌∙◌, refl}
use native.Mathlib.Omega.{arith}
use Rattle.import_places.specs.Walking.{meant}
use Rattle.import_places.proofs.Steps.{on_byte, on_depth, on_low, at_end}
use Rattle.import_places.proofs.find.Goals as goal

pub loop-i-init : goal.loop-i-init
loop-i-init c = record { within = c.requires.0; shallows = omega arith; low = c.requires.2; rest = refl }

pub advance-requires : goal.advance-requires
advance-requires c = let a = c.loop-i.invariant.shallows in let b = c.loop-i.invariant.within in omega (arith, c.requires.1)

pub loop-i-preserved : goal.loop-i-preserved
loop-i-preserved c = let e = sym c.in-On.is ∙ c.advance.ensures in
    let d = on_depth c.loop-i.s c.in-On.w _ e in
    let h = c.loop-i.invariant.shallows in
    record {
      within = omega (arith, c.loop-i-test.true);
      shallows = omega arith;
      low = on_low c.loop-i.s c.in-On.w _ e c.loop-i.invariant.low;
      rest = sym (on_byte _ c.loop-i.s c.loop-i.i _ c.loop-i-test.true e) ∙ c.loop-i.invariant.rest;
    }

pub returns-in-Go : goal.returns-in-Go
unfolding meant
returns-in-Go c = record {
  place = sym (on_byte _ c.loop-i.s c.loop-i.i _ c.loop-i-test.true
      (sym c.in-Go.is ∙ c.advance.ensures)) ∙ c.loop-i.invariant.rest;
  inside =
      (omega (arith, c.loop-i-test.true), c.loop-i.invariant.low);
}

pub returns-in-Result : goal.returns-in-Result
unfolding meant
returns-in-Result c = record {
  place = sym (on_byte _ c.loop-i.s c.loop-i.i _ c.loop-i-test.true
      (sym c.in-Result.is ∙ c.advance.ensures)) ∙ c.loop-i.invariant.rest;
  inside = omega (arith, c.loop-i-test.true);
}

pub returns-in-NextCase : goal.returns-in-NextCase
unfolding meant
returns-in-NextCase c = record {
  place = sym (on_byte _ c.loop-i.s c.loop-i.i _ c.loop-i-test.true
      (sym c.in-NextCase.is ∙ c.advance.ensures)) ∙ c.loop-i.invariant.rest;
  inside = omega (arith, c.loop-i-test.true);
}

pub returns-in-Lost : goal.returns-in-Lost
unfolding meant
returns-in-Lost c = record { place = sym (on_byte _ c.loop-i.s c.loop-i.i _ c.loop-i-test.true (sym c.in-Lost.is ∙ c.advance.ensures)) ∙ c.loop-i.invariant.rest; inside = tt }

pub returns : goal.returns
unfolding meant
returns c = record { place = at_end _ _ c.loop-i.s c.loop-i.i c.loop-i.invariant c.loop-i-test.false; inside = tt }
