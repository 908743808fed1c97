-- `text_listing::judging::greatest_root` meets its contract: `root` is the greatest root of the first h stages, which
-- `larger` takes on to the next (`root_more`); h grows to the last.
use Prim.Native.Nat.{◌≤◌}
use mathlib.Core.Path.{◌≡◌}
use Rattle.theory.specs.Listing.{greatest_root}
use Rattle.text_listing.proofs.judging.greatest_root.Given as goal

abbrev pub invariant-loop-h : goal.invariant-loop-h
invariant-loop-h l = (l.h ≤ l.last) × (l.root ≡ greatest_root l.h l.stages)
