-- `solve_in_room::solve_in` meets its contract: without room the first leaf already ends with 12 (`no_room`); else `fill` gives the contract.
use mathlib.Core.Path.{refl}
use Rattle.solve_in_room.proofs.Left.{no_room, some_room, cleared}
use Rattle.solve_in_room.proofs.solve_in.Goals as goal

pub returns-then-cap-eq0 : goal.returns-then-cap-eq0
returns-then-cap-eq0 c = no_room c.args.model.now c.args.horizon c.args.nodes.now c.args.stages.now c.args.work.now c.requires.0 c.if-cap-eq0.true

pub fill-requires : goal.fill-requires
fill-requires c = (
  c.requires.0,
  c.requires.1,
  c.requires.2,
  c.requires.3,
  some_room c.args.cap c.if-cap-eq0.false c.requires.4 c.requires.5
      c.requires.6,
  c.requires.7,
  refl,
  cleared c.clear_peaks.ensures c.requires.8,
)

pub returns : goal.returns
returns c = c.fill.ensures
