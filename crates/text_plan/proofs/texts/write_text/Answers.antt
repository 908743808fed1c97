-- `text_plan::texts::write_text` meets its contract: the text is as long as its first line, its nodes' lines and its stages' lines together
-- (`text_length`), so each part has room; put in turn they are the text (`text_put`).
use Prim.Native.Nat.{◌-◌, ◌≤◌}
use native.Mathlib.Omega.{arith}
use borrow.Rule.Slice.PartMut.{same_len_mid}
use lib.ListN.{length}
use Rattle.theory.specs.Listing.{first_line}
use Rattle.model_progress.specs.GivenFlags.{site_as}
use Rattle.text_decimal.proofs.Puts.{lent}
use Rattle.text_plan.proofs.Joined.{part_room, text_length, text_put}
use Rattle.text_plan.proofs.texts.write_text.Goals as goal

pub first_line-requires : goal.first_line-requires
first_line-requires c = let a = c.args in
    let t = text_length (site_as a.site) a.horizon a.nodes.now a.stages.now a.root c.requires.0.greatest in
    part_room (first_line (site_as a.site) a.horizon) a.buffer.now a.place (omega (arith, c.requires.1, t))

pub overflow_add-n : goal.overflow_add-n
overflow_add-n c = let a = c.args in
    let t = text_length (site_as a.site) a.horizon a.nodes.now a.stages.now a.root c.requires.0.greatest in
    omega (arith, c.requires.1, t, c.first_line.ensures.behind, c.well_formed)

pub node_lines-m-requires : goal.node_lines-m-requires
node_lines-m-requires c = let a = c.args in
    let b = a.buffer.now in
    let t = text_length (site_as a.site) a.horizon a.nodes.now a.stages.now a.root c.requires.0.greatest in
    let k = same_len_mid a.place (length b - a.place) b c.first_line.new.out c.first_line.auto.out in
    (c.requires.0.inside, omega (arith, c.requires.1, t, k, c.first_line.ensures.behind))

pub stage_lines-requires : goal.stage_lines-requires
stage_lines-requires c = let a = c.args in
    let b = a.buffer.now in
    let t = text_length (site_as a.site) a.horizon a.nodes.now a.stages.now a.root c.requires.0.greatest in
    let k = same_len_mid a.place (length b - a.place) b c.first_line.new.out c.first_line.auto.out in
    (c.requires.0.steps, omega (arith, c.requires.1, t, k, c.first_line.ensures.behind, c.node_lines-m.ensures.behind, c.node_lines-m.auto.buffer))

pub returns : goal.returns
returns c = let a = c.args in
    let b = a.buffer.now in
    let h : a.place ≤ length b = omega (arith, c.requires.1) in
    text_put (site_as a.site) a.horizon a.nodes.now a.stages.now a.root c.requires.0.greatest h
    (lent b (first_line (site_as a.site) a.horizon) c.first_line.new.out a.place c.first_line.result h c.first_line.ensures)
    c.node_lines-m.ensures
    c.stage_lines.ensures
