use mathlib.Core.Path.{ap, ◌∙◌}
use Prim.Native.Nat.{ℕ, ◌/◌, min}
use Rattle.theory.specs.Solve.{room}
use Rattle.theory.specs.Widths.{node_words}
use Rattle.table_room.proofs.room.Goals as goal

pub returns : goal.returns
unfolding room
returns c = c.min-2.ensures ∙ ap (λ (k : ℕ). min (c.args.nodes / node_words) k) c.min.ensures
