use mathlib.Core.Path.{sym, ◌∙◌, refl}
use native.Mathlib.Omega.{arith}
use Rattle.import_going.proofs.Reaching.{goes_on, atom_spotted, else_spotted, deep_spotted, lost_spotted, end_spotted}
use Rattle.import_going.proofs.start.go.Goals as goal

pub loop-i-init : goal.loop-i-init
loop-i-init c = record { within = c.requires.0; low = c.requires.2; rest = refl }

pub bracket_at-cond-requires : goal.bracket_at-cond-requires
bracket_at-cond-requires c = (c.loop-i-test.true, c.requires.1)

pub after_byte-requires : goal.after_byte-requires
after_byte-requires c = c.loop-i.invariant.low

pub loop-i-preserved : goal.loop-i-preserved
loop-i-preserved c = goes_on _ _ _ _ _ _ c.loop-i-test.true c.bracket_at-cond.ensures (sym c.in-On.is ∙ c.after_byte.ensures) c.loop-i.invariant

pub returns-in-Atom : goal.returns-in-Atom
returns-in-Atom c = atom_spotted _ _ c.loop-i.s _ _ c.loop-i-test.true c.bracket_at-cond.ensures (sym c.in-Atom.is ∙ c.after_byte.ensures) c.loop-i.invariant

pub result_behind-requires : goal.result_behind-requires
result_behind-requires c = let h = c.loop-i-test.true in omega arith

pub returns-in-Else : goal.returns-in-Else
returns-in-Else c = else_spotted _ _ c.loop-i.s _ _ c.result_behind.result c.loop-i-test.true c.bracket_at-cond.ensures
    (sym c.in-Else.is ∙ c.after_byte.ensures) c.loop-i.invariant c.result_behind.ensures

pub returns-in-Deep : goal.returns-in-Deep
returns-in-Deep c = deep_spotted _ _ c.loop-i.s _ _ c.loop-i-test.true c.bracket_at-cond.ensures (sym c.in-Deep.is ∙ c.after_byte.ensures) c.loop-i.invariant

pub returns-in-Lost : goal.returns-in-Lost
returns-in-Lost c = lost_spotted _ _ c.loop-i.s _ _ c.loop-i-test.true c.bracket_at-cond.ensures (sym c.in-Lost.is ∙ c.after_byte.ensures) c.loop-i.invariant

pub returns : goal.returns
returns c = end_spotted _ _ c.loop-i.s c.loop-i.i c.loop-i.invariant c.loop-i-test.false
