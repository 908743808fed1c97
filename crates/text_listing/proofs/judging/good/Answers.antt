-- `text_listing::judging::good` meets its contract.
use mathlib.Core.Path.{ap, ◌∙◌}
use mathlib.Core.Bool.{not}
use Rattle.text_listing.proofs.Judged.{row_bad, row_good}
use Rattle.text_listing.proofs.judging.good.Goals as goal
use Rattle.text_listing.proofs.judging.good.Goals.{in-Bad, in_default}

pub returns : goal.returns
returns c =
    let a = c.args in
    elim c.match-matches.branch [
      | in-Bad w ↦ ap not w.matches-is ∙ row_bad a.conditions a.actions a.nodes.now a.r c.requires c.row_kind.ensures w.in-Bad.is
      | in_default w ↦ ap not w.matches-is ∙ row_good a.conditions a.actions a.nodes.now a.r c.requires c.row_kind.result c.row_kind.ensures w.in_default.not-Bad
    ]
