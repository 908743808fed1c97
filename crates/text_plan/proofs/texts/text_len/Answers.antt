-- `text_plan::texts::text_len` meets its contract.
use Rattle.model_progress.specs.GivenFlags.{site_as}
use Rattle.text_plan.proofs.Joined.{text_counted}
use Rattle.text_plan.proofs.texts.text_len.Goals as goal

pub returns : goal.returns
returns c = let a = c.args in
    text_counted (site_as a.site) a.horizon a.nodes.now a.stages.now a.root c.requires.0.greatest a.room
    c.first_line_len.ensures.0 c.stage_lines_len.ensures.0 c.node_lines_len.ensures
