-- `rule_choose::roots::choice_at` meets its contract: the test's numbers are lent whole.
use native.Mathlib.Omega.{arith}
use Rattle.rule_choose.proofs.RootCases.{choice_lent}
use Rattle.rule_choose.proofs.roots.choice_at.Goals as goal

pub choice_by-requires : goal.choice_by-requires
choice_by-requires c = let n = c.struct_told-1.given.1.0.1.0.1 in
    (omega (arith, n), c.requires.0, c.requires.1)

pub returns : goal.returns
returns c = let n = c.struct_told-1.given.1.0.1.0.1 in
    choice_lent _ _ c.args.f c.args.g c.args.z n c.struct_told-1.given.0.1 c.choice_by.ensures
