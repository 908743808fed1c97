-- `planner::texts::planner_listing` meets its contract.
use Rattle.theory.specs.Listing.{listing}
use Rattle.c_answers.proofs.Listed.{text_whole, listing_short}
use Rattle.planner.proofs.texts.planner_listing.Goals as goal

pub returns-then-out-lt8 : goal.returns-then-out-lt8
returns-then-out-lt8 c = let a = c.args in
    listing_short a.bytes.now a.horizon a.nodes.now a.stages.now a.place a.text.now c.if-out-lt8.true c.listing-v.ensures c.listing-v.auto.text c.short.ensures

pub returns : goal.returns
returns c = let a = c.args in
    text_whole (listing a.bytes.now a.horizon a.nodes.now a.stages.now a.text.now a.place) a.text.now a.out.now c.if-out-lt8.false c.listing-v-2.ensures c.put_pair.ensures.0
