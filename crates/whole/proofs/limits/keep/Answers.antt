-- `whole::limits::keep` meets its contract.
use Rattle.std.specs.Prelude.{Some}
use Rattle.std.proofs.Common.{sym, ap, ◌∙◌, arith}
use Rattle.whole.proofs.Signed.{back, abs_back}
use Rattle.whole.specs.WithinLaws.{limited_is, limited_over}
use Rattle.whole.proofs.limits.keep.Goals as goal

pub returns-then-mag-le-LIMIT : goal.returns-then-mag-le-LIMIT
returns-then-mag-le-LIMIT c = ap Some (back c.args.z c.ranges.z) ∙ sym (limited_is c.args.z (let e = abs_back c.args.z c.ranges.z c.mag.ensures in omega arith))

pub returns-else-mag-le-LIMIT : goal.returns-else-mag-le-LIMIT
returns-else-mag-le-LIMIT c = sym (limited_over c.args.z (let e = abs_back c.args.z c.ranges.z c.mag.ensures in omega arith))
