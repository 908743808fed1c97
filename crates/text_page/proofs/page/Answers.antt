-- `text_page::page` meets its contract.
use mathlib.Core.Path.{sym, ap, ◌∙◌}
use Rattle.theory.specs.Verdict.{Verdict}
use Rattle.value_walk.specs.State.{asked}
use Rattle.text_listing.specs.declared.Listed.{Listed}
use Rattle.text_listing.specs.Answer.{outcome}
use Rattle.text_page.proofs.Outcome.{page_stopped}
use Rattle.text_page.proofs.page.Goals as goal

pub returns-then-v-ne0 : goal.returns-then-v-ne0
returns-then-v-ne0 c = page_stopped c.args.model.now c.args.horizon c.args.nodes.now c.args.stages.now (asked c.args.q) c.args.text.now
    c.args.place c.early-v.ensures c.if-v-ne0.true (ap (λ (x : Listed). outcome x c.args.text.now) c.refused.ensures)

pub page_of-requires : goal.page_of-requires
page_of-requires c = (ap (λ (v : Verdict). v.number) (sym c.early-v.ensures) ∙ c.if-v-ne0.false, c.site.ensures)

pub returns : goal.returns
returns c = c.page_of.ensures
