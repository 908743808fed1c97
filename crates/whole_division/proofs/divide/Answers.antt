-- `whole_division::divide` meets its contract: a half behind a remainder has a quotient below 2³² (`digit_small`), so each step fits a word;
-- the quotients and the last remainder make the whole again (`divides`).
use native.Mathlib.Nat.{mod-lt}
use Rattle.std.proofs.Common.{◌≡◌, ℕ, ◌+◌, ◌*◌, ◌/◌, ◌%◌, ◌<◌, arith}
use Rattle.whole_division.proofs.Long.{digit_small, divides}
use Rattle.whole_division.proofs.divide.Goals as goal

positive : {d e : ℕ} → 0 < d → e ≡ d → 0 < e
positive h q = omega arith

pub nonzero_rem-upper : goal.nonzero_rem-upper
nonzero_rem-upper c = positive c.requires c.from-by.ensures

pub overflow_mul-upper : goal.overflow_mul-upper
overflow_mul-upper c = omega (arith, mod-lt c.args.high (positive c.requires c.from-by.ensures))

pub overflow_add-upper : goal.overflow_add-upper
overflow_add-upper c = omega (arith, mod-lt c.args.high (positive c.requires c.from-by.ensures))

pub nonzero_rem-lower : goal.nonzero_rem-lower
nonzero_rem-lower c = positive c.requires c.from-by.ensures

pub overflow_mul-lower : goal.overflow_mul-lower
overflow_mul-lower c = omega (arith, mod-lt (c.args.high % c.from-by.result * 4294967296 + c.args.low / 4294967296) (positive c.requires c.from-by.ensures))

pub overflow_add-lower : goal.overflow_add-lower
overflow_add-lower c = omega (arith, mod-lt (c.args.high % c.from-by.result * 4294967296 + c.args.low / 4294967296) (positive c.requires c.from-by.ensures))

pub nonzero_div-result : goal.nonzero_div-result
nonzero_div-result c = positive c.requires c.from-by.ensures

pub nonzero_div-result-2 : goal.nonzero_div-result-2
nonzero_div-result-2 c = positive c.requires c.from-by.ensures

pub overflow_mul-result : goal.overflow_mul-result
overflow_mul-result c = omega (arith, digit_small (c.args.high % c.from-by.result) (c.args.low / 4294967296) c.from-by.result (mod-lt c.args.high (positive c.requires c.from-by.ensures)) (omega arith))

pub nonzero_div-result-3 : goal.nonzero_div-result-3
nonzero_div-result-3 c = positive c.requires c.from-by.ensures

pub overflow_add-result : goal.overflow_add-result
overflow_add-result c = omega (
  arith,
  digit_small (c.args.high % c.from-by.result) (c.args.low / 4294967296) c.from-by.result (mod-lt c.args.high (positive c.requires c.from-by.ensures)) (omega arith),
  digit_small
      ((c.args.high % c.from-by.result * 4294967296 + c.args.low / 4294967296) % c.from-by.result) (c.args.low % 4294967296) c.from-by.result
      (mod-lt (c.args.high % c.from-by.result * 4294967296 + c.args.low / 4294967296) (positive c.requires c.from-by.ensures)) (omega arith),
)

pub nonzero_rem-result : goal.nonzero_rem-result
nonzero_rem-result c = positive c.requires c.from-by.ensures

pub returns : goal.returns
returns c = divides c.args.high c.args.low c.from-by.result (positive c.requires c.from-by.ensures) c.args.d c.from-by.ensures
