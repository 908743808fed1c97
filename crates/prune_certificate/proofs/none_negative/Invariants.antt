-- `prune_certificate::none_negative` meets its contract: the multipliers from the next on are not below 0 where all
-- are not; the first below 0 ends the loop (`signs_stops`).
use mathlib.Core.Path.{◌≡◌}
use lib.IntN.{pos}
use lib.ListN.{drop}
use lib.Signed.{le_z}
use Rattle.theory.specs.Valid.{all}
use Rattle.prune_certificate.proofs.none_negative.Given as goal

abbrev pub invariant-loop-k : goal.invariant-loop-k
invariant-loop-k l = all (le_z (pos 0)) (drop l.k-index l.ks) ≡ all (le_z (pos 0)) l.ks
