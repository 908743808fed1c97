use mathlib.Core.Bool.{true, false}
use native.Mathlib.Omega.{arith}
use Rattle.model_form.specs.Forms.{form_of}
use Rattle.convert_forms.proofs.Pass.{goes}
use Rattle.convert_model.proofs.ForbiddenSearch.{search_starts, search_found, search_ends, search_on, met}
use Rattle.convert_model.proofs.forbidding.forbids.Goals as goal

pub loop-form-init : goal.loop-form-init
loop-form-init c = search_starts (form_of c.args.form) c.args.model.now

pub returns-then-is_forbidden : goal.returns-then-is_forbidden
returns-then-is_forbidden c = search_found c.loop-form.invariant (met (form_of c.args.form) c.args.model.now c.loop-form.at c.command_in-read.result
    c.is_forbidden.result true c.command_in-read.ensures c.is_forbidden.ensures c.if-is_forbidden.true)

pub loop-form-smaller : goal.loop-form-smaller
loop-form-smaller c = let F = form_of c.args.form in
    let B = c.args.model.now in
    let q = search_on c.loop-form.invariant (met F B c.loop-form.at c.command_in-read.result c.is_forbidden.result false
    c.command_in-read.ensures c.is_forbidden.ensures c.if-is_forbidden.false)
    (goes F B c.loop-form.at c.command_in-read.result c.goes_on.result true c.command_in-read.ensures
    c.goes_on.ensures c.if-goes_on.true) c.next_after_in-at.result c.next_after_in-at.ensures in
    omega (arith, q.1, q.0.inside)

pub loop-form-preserved : goal.loop-form-preserved
loop-form-preserved c = let F = form_of c.args.form in
    let B = c.args.model.now in
    (search_on c.loop-form.invariant (met F B c.loop-form.at c.command_in-read.result c.is_forbidden.result false
    c.command_in-read.ensures c.is_forbidden.ensures c.if-is_forbidden.false)
    (goes F B c.loop-form.at c.command_in-read.result c.goes_on.result true c.command_in-read.ensures
    c.goes_on.ensures c.if-goes_on.true) c.next_after_in-at.result c.next_after_in-at.ensures).0

pub returns-else-goes_on : goal.returns-else-goes_on
returns-else-goes_on c = let F = form_of c.args.form in
    let B = c.args.model.now in
    search_ends c.loop-form.invariant (met F B c.loop-form.at c.command_in-read.result c.is_forbidden.result false
    c.command_in-read.ensures c.is_forbidden.ensures c.if-is_forbidden.false)
    (goes F B c.loop-form.at c.command_in-read.result c.goes_on.result false c.command_in-read.ensures
    c.goes_on.ensures c.if-goes_on.false)
