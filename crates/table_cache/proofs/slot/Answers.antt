-- `table_cache::slot` meets its contract: the sum modulo cap is below cap, so the six words of the entry end at 8 cap
-- words at most; the sum itself fits by the bounds of a key.
use mathlib.Core.Path.{refl}
use Prim.Native.Nat.{◌+◌, ◌*◌}
use native.Mathlib.Nat.{mod-lt}
use native.Mathlib.Omega.{arith}
use Rattle.table_cache.specs.Cache.{slot_of}
use Rattle.table_cache.proofs.slot.Goals as goal

pub overflow_mul-result-5 : goal.overflow_mul-result-5
overflow_mul-result-5 c = omega (arith, mod-lt (c.args.op * 7919 + c.args.f + c.args.g * 1009 + c.args.p * 263 + c.args.q) c.requires.0)

pub overflow_add-result-5 : goal.overflow_add-result-5
overflow_add-result-5 c = omega (arith, mod-lt (c.args.op * 7919 + c.args.f + c.args.g * 1009 + c.args.p * 263 + c.args.q) c.requires.0)

pub returns : goal.returns
unfolding slot_of
returns c = (refl, omega (arith, mod-lt (c.args.op * 7919 + c.args.f + c.args.g * 1009 + c.args.p * 263 + c.args.q) c.requires.0))
