-- `model_names::name_refusal` meets its contract.
use mathlib.Core.Path.{refl, sym, ap, ◌∙◌}
use mathlib.Core.Bool.{true, false}
use borrow.Author.Tests.{le-leb, lt-leb}
use Rattle.theory.specs.Verdict.{Site}
use Rattle.theory.specs.Valid.{among}
use Rattle.model_names.proofs.NameWalk.{early_refused, early_passed}
use Rattle.model_names.proofs.name_refusal.Goals.{then-action-lt1-via-then-action-lt1, then-action-lt1-via-else-action-lt1+then-from-action}
use Rattle.model_names.proofs.name_refusal.Goals as goal

pub returns-then-v-ne0 : goal.returns-then-v-ne0
returns-then-v-ne0 c = early_refused c.args.model.now c.args.action c.early-v.result c.early-v.ensures c.if-v-ne0.true

pub returns-then-action-lt1 : goal.returns-then-action-lt1
unfolding among
returns-then-action-lt1 c = elim c.then-action-lt1.branch [
  | then-action-lt1-via-then-action-lt1 w ↦ early_passed c.args.model.now c.args.action c.early-v.result _ false c.early-v.ensures c.if-v-ne0.false refl
      (rw (lt-leb 1 _ w.if-action-lt1.true))
  | then-action-lt1-via-else-action-lt1+then-from-action w ↦ early_passed c.args.model.now c.args.action c.early-v.result w.from.result false c.early-v.ensures
      c.if-v-ne0.false (sym (ap (λ (S : Site). S.actions) w.site.ensures) ∙ sym w.from.ensures)
      (rw (le-leb 1 _ w.if-action-lt1.false, lt-leb _ _ w.if-from-action.true))
]

pub returns : goal.returns
unfolding among
returns c = early_passed c.args.model.now c.args.action c.early-v.result c.from.result true c.early-v.ensures
    c.if-v-ne0.false (sym (ap (λ (S : Site). S.actions) c.site.ensures) ∙ sym c.from.ensures)
    (rw (le-leb 1 _ c.if-action-lt1.false, le-leb _ _ c.if-from-action.false))
