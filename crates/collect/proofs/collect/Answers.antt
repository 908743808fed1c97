-- `collect::collect` meets its contract: what is marked is closed under branches, which `slide` requires; then every root is marked, so it has a forward word (`collected`).
use Rattle.collect.proofs.Gathers.{space₁, closed, asks, collected}
use Rattle.collect.proofs.collect.Goals as goal

pub mark-requires : goal.mark-requires
mark-requires c = (c.requires.0, c.requires.1, c.requires.2)

pub slide-left-requires : goal.slide-left-requires
slide-left-requires c = (space₁ c.requires.0 c.requires.1 c.requires.2 c.mark.ensures, c.requires.1, closed c.requires.0 c.requires.1 c.requires.2 c.mark.ensures)

pub forward-requires : goal.forward-requires
forward-requires c = asks c.requires.0 c.requires.1 c.requires.2 c.mark.ensures c.slide-left.ensures

pub returns : goal.returns
returns c = collected c.requires.0 c.requires.1 c.requires.2 c.mark.ensures c.slide-left.ensures c.forward.ensures
