-- `text_listing::listing` meets its contract.
use mathlib.Core.Path.{ap}
use lib.ListN.{length}
use Rattle.text_listing.specs.declared.Listed.{Listed}
use Rattle.text_listing.specs.Answer.{outcome}
use Rattle.text_listing.proofs.Outcome.{listing_passed, listing_stopped, early_judged}
use Rattle.text_listing.proofs.listing.Goals as goal

pub returns-then-v-ne0 : goal.returns-then-v-ne0
returns-then-v-ne0 c = let a = c.args in
    listing_stopped a.model.now a.horizon a.nodes.now a.stages.now a.text.now a.place c.early-v.ensures c.if-v-ne0.true
    (ap (λ (x : Listed). outcome x a.text.now) c.refused.ensures)

pub list_plan-requires : goal.list_plan-requires
list_plan-requires c = let a = c.args in
    early_judged a.model.now a.horizon (length a.stages.now) c.early-v.ensures c.if-v-ne0.false

pub returns : goal.returns
returns c = let a = c.args in
    listing_passed a.model.now a.horizon a.nodes.now a.stages.now a.text.now a.place c.early-v.ensures c.if-v-ne0.false c.site.ensures c.list_plan.ensures
