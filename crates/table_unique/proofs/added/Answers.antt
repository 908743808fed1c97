use Rattle.std.proofs.Common.{ℕ, ◌*◌, ◌%◌, ◌^◌, ap, ◌∙◌, w64, of_z}
use Rattle.whole.proofs.Signed.{back}
use Rattle.table_unique.specs.Unique.{added_of}
use Rattle.table_unique.proofs.NodeHash.{added_as}
use Rattle.table_unique.proofs.added.Goals as goal

pub returns : goal.returns
unfolding added_of
returns c = let b = c.bits.ensures ∙ ap (of_z w64) (back c.args.z c.ranges.z) in
    added_as c.args.h (of_z w64 c.args.z) c.args.k (c.times.ensures ∙ ap (λ (m : ℕ). m * c.args.k % 2 ^ 64) b) c.wrapping_add_u64.ensures.value
