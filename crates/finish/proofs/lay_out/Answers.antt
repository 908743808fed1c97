-- `finish::lay_out` meets its contract: each part is one call's contract; work words that are zero from 0 on are all zero (`all_wiped`).
use mathlib.Core.Path.{ap, ◌∙◌}
use Prim.Native.Nat.{ℕ}
use lib.ListN.{replicate}
use Rattle.finish.proofs.Fill.{all_wiped}
use Rattle.finish.proofs.lay_out.Goals as goal

pub returns : goal.returns
returns c = record {
  ordered = c.arrange.new.nodes;
  arranged = c.arrange.ensures;
  nodes = c.nodes_from.ensures;
  work = all_wiped 0 c.arrange.new.work c.words_from.ensures ∙ ap (λ (k : ℕ). replicate k 0) c.arrange.auto.work;
}
