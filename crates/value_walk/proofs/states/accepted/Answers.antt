-- `value_walk::states::accepted` meets its contract.
use Rattle.std.proofs.Common.{Bool, ◌&&◌, ◌^◌, drop, ltb, sym, ap, ◌∙◌, refl, rules}
use Rattle.theory.specs.Diagram.{zeros}
use Rattle.value_walk.specs.State.{asked}
use Rattle.value_walk.proofs.Accept.{accepted_by}
use Rattle.value_walk.proofs.states.accepted.Goals as goal
use Rattle.value_walk.proofs.states.accepted.Goals.{then-q-ge1, else-q-ge1}

pub returns-then-mask_fits : goal.returns-then-mask_fits
returns-then-mask_fits c = let a = c.args in
    ap (λ (b : Bool). b && c.levels_fit.result) (sym c.if-mask_fits.true)
    ∙ accepted_by a.m a.n a.q (search rules) (elim c.if-q-ge1.branch [
      | then-q-ge1 w ↦ w.value-is ∙ w.mask_fits.ensures ∙ ap (λ (b : Bool). b && ltb a.q.mask (2 ^ a.n)) (sym w.if-q-ge1.true)
      | else-q-ge1 w ↦ w.value-is ∙ w.if-q-ge1.false ∙ ap (λ (b : Bool). b && ltb a.q.mask (2 ^ a.n)) (sym w.if-q-ge1.false)
    ]) c.levels_fit.ensures

pub returns-else-mask_fits : goal.returns-else-mask_fits
returns-else-mask_fits c = let a = c.args in
    c.if-mask_fits.false ∙ ap (λ (b : Bool). b && zeros (drop a.m (asked a.q).nums)) (sym c.if-mask_fits.false)
    ∙ accepted_by a.m a.n a.q (search rules) (elim c.if-q-ge1.branch [
      | then-q-ge1 w ↦ w.value-is ∙ w.mask_fits.ensures ∙ ap (λ (b : Bool). b && ltb a.q.mask (2 ^ a.n)) (sym w.if-q-ge1.true)
      | else-q-ge1 w ↦ w.value-is ∙ w.if-q-ge1.false ∙ ap (λ (b : Bool). b && ltb a.q.mask (2 ^ a.n)) (sym w.if-q-ge1.false)
    ]) refl
