-- `import_walk::opening::opening_at` meets its contract: each part is a call's contract on the parts before it (`opening_joined`).
use mathlib.Core.Path.{refl}
use Rattle.import_walk.proofs.Joined.{opening_joined}
use Rattle.import_walk.proofs.opening.opening_at.Goals as goal

pub returns : goal.returns
returns c = opening_joined _ _ _ _ _ _ _ _ _ c.byte_at-first.ensures c.byte_at-second.ensures
    c.kind_of-kind.ensures c.action_at-a.ensures c.index_at-index.ensures c.behind-next.ensures refl refl refl refl
