-- K4's statements, proved.
use Rattle.std.proofs.Common.{sym, ap, ◌∙◌}
use Rattle.theory.specs.Process.{optimum, lowest_best}
use Rattle.theory.proofs.laws.Values.{parallel_fails, node_at}
use Rattle.theory.specs.Value.{answered}
use Rattle.theorems.specs.Demands.{start}
use Rattle.theorems.specs.Parallel.{NeverTrue, NodePicks, LowSideApart, MadeAnew, Unmoved, NoneDiffers}
use Rattle.theorems.proofs.laws.Narrowed as Narrowed
use Rattle.theorems.proofs.laws.Demands.{exact, spelled_same}

pub never_true : NeverTrue
never_true = parallel_fails

pub node_picks : NodePicks
node_picks = node_at

pub low_side_apart : LowSideApart
low_side_apart t h l o = Narrowed.low_apart t l o.1.0 o.1.1.1.1 o.1.1.0.1

pub made_anew : MadeAnew
made_anew = Narrowed.made_anew

pub unmoved : Unmoved
unmoved g h a b q t = exact g h a b q t
    ∙ ap (λ P. answered (optimum P h (start g q t)) (lowest_best P h (start g q t))) (spelled_same g.bytes)

pub none_differs : NoneDiffers
none_differs g h a b q t before e = unmoved g h a b q t ∙ sym e
