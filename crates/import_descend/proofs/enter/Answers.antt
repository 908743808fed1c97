-- `import_descend::enter` meets its contract: an atom that is visited has at most 32 signs, so nothing is to be shown of a wider one; else the entry fits its word, and its first outcome is decided.
use native.Mathlib.Omega.{arith}
use Rattle.import_descend.proofs.Entering.{too_wide, too_deep, fits, entered}
use Rattle.import_descend.proofs.enter.Goals as goal

pub returns-then-e-ge4294967296 : goal.returns-then-e-ge4294967296
returns-then-e-ge4294967296 c = too_wide _ _ _ _ c.requires c.if-e-ge4294967296.true

pub returns-then-e-gt32 : goal.returns-then-e-gt32
returns-then-e-gt32 c = too_deep _ _ _ _ c.requires c.if-e-gt32.true

pub look-t-requires : goal.look-t-requires
look-t-requires c = let a = c.requires.inside in (omega (arith, a), c.requires.short)

pub push-requires : goal.push-requires
push-requires c = (c.requires.room, fits _ _ _ _ c.requires c.if-e-ge4294967296.false c.if-e-gt32.false)

pub decided-requires : goal.decided-requires
decided-requires c = let a = c.requires.inside in (omega (arith, a), c.requires.short, c.requires.low)

pub returns : goal.returns
returns c = entered _ _ _ _ c.look-t.result _ c.decided.result _ c.requires c.look-t.ensures c.push.ensures c.first_value.ensures c.decided.ensures
