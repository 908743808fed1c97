-- `text_listing::judging::all_rooted` meets its contract: stages 1 to h have a root; the first that has none
-- decides the whole (`every_false`), and h grows to the last.
use Prim.Native.Nat.{◌≤◌}
use mathlib.Core.Bool.{true}
use mathlib.Core.Path.{◌≡◌}
use Rattle.text_listing.specs.Refusal.{rooted}
use Rattle.text_listing.proofs.Every.{every}
use Rattle.text_listing.proofs.judging.all_rooted.Given as goal

abbrev pub invariant-loop-h : goal.invariant-loop-h
invariant-loop-h l = (l.h ≤ l.last) × (every (rooted l.stages) l.h ≡ true)
