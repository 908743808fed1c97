use native.Mathlib.Omega.{arith}
use lib.IntN.{pos}
use lib.ListN.{get_or}
use Rattle.whole.proofs.Signed.{R32, back32}
use Rattle.prune_certificate.proofs.Answers.{sign_low, sign_high, signs_goes, signs_stops, signs_ends}
use Rattle.prune_certificate.proofs.none_negative.Goals as goal

pub returns-then-k-lt0 : goal.returns-then-k-lt0
returns-then-k-lt0 c = signs_stops c.args.ks.now c.loop-k.k-index _ c.loop-k-test.true c.loop-k.invariant (back32 _ (record { sfits = c.k-1.given })) (sign_low (R32 (get_or c.args.ks.now c.loop-k.k-index (pos 0))) c.if-k-lt0.true)

pub loop-k-preserved : goal.loop-k-preserved
loop-k-preserved c = signs_goes c.args.ks.now c.loop-k.k-index _ c.loop-k-test.true c.loop-k.invariant (back32 _ (record { sfits = c.k-1.given })) (sign_high (R32 (get_or c.args.ks.now c.loop-k.k-index (pos 0))) c.if-k-lt0.false)

pub returns : goal.returns
returns c = signs_ends c.args.ks.now c.loop-k.k-index (omega arith) c.loop-k-test.false c.loop-k.invariant
