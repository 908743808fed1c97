-- `model_progress::operands::site` meets its contract: the tests stand in the order of `site_rules`; the first
-- that fails gives its number, for those before it hold.
use mathlib.Core.Path.{refl, sym, ap₂, ◌∙◌}
use native.Mathlib.Omega.{arith}
use borrow.Author.Tests.{lt-ltb, le-ltb}
use Rattle.theory.specs.Valid.{among as is_among}
use Rattle.theory.specs.Verdict.{first_broken, site_rules}
use Rattle.model_progress.proofs.operands.site.Goals.{else-among-via-then-among+then-from-le-CONDITIONS+then-among-2+else-among-3, else-among-via-then-among+then-from-le-CONDITIONS+else-among-2, else-among-via-then-among+else-from-le-CONDITIONS, else-among-via-else-among}
use Rattle.model_progress.proofs.operands.site.Goals as goal

pub returns-then-among-3 : goal.returns-then-among-3
unfolding first_broken site_rules
returns-then-among-3 c =
    let m = sym (ap₂ is_among c.levels.ensures.0 c.from.ensures) ∙ sym c.among.ensures in
    let n = le-ltb 4 c.args.n (let h = c.if-from-le-CONDITIONS.true in omega (arith, c.from-then-among.ensures)) in
    let a = sym (ap₂ is_among c.actions.ensures c.from-then-from-le-CONDITIONS.ensures) ∙ sym c.among-then-from-le-CONDITIONS.ensures in
    let w = sym (ap₂ is_among refl c.from-then-among-2.ensures) ∙ sym c.among-then-among-2.ensures in
    simp (m ∙ c.if-among.true, n, a ∙ c.if-among-2.true, w ∙ c.if-among-3.true)

pub returns-else-among : goal.returns-else-among
unfolding first_broken site_rules
returns-else-among c =
    let m = sym (ap₂ is_among c.levels.ensures.0 c.from.ensures) ∙ sym c.among.ensures in
    elim c.else-among.branch [
      | else-among-via-then-among+then-from-le-CONDITIONS+then-among-2+else-among-3 v ↦
          let n = le-ltb 4 c.args.n (let h = v.if-from-le-CONDITIONS.true in omega (arith, v.from-then-among.ensures)) in
          let a = sym (ap₂ is_among v.actions.ensures v.from-then-from-le-CONDITIONS.ensures) ∙ sym v.among-then-from-le-CONDITIONS.ensures in
          let w = sym (ap₂ is_among refl v.from-then-among-2.ensures) ∙ sym v.among-then-among-2.ensures in
          simp (m ∙ v.if-among.true, n, a ∙ v.if-among-2.true, w ∙ v.if-among-3.false)
      | else-among-via-then-among+then-from-le-CONDITIONS+else-among-2 v ↦
          let n = le-ltb 4 c.args.n (let h = v.if-from-le-CONDITIONS.true in omega (arith, v.from-then-among.ensures)) in
          let a = sym (ap₂ is_among v.actions.ensures v.from-then-from-le-CONDITIONS.ensures) ∙ sym v.among-then-from-le-CONDITIONS.ensures in
          simp (m ∙ v.if-among.true, n, a ∙ v.if-among-2.false)
      | else-among-via-then-among+else-from-le-CONDITIONS v ↦
          let n = lt-ltb 4 c.args.n (let h = v.if-from-le-CONDITIONS.false in omega (arith, v.from-then-among.ensures)) in
          simp (m ∙ v.if-among.true, n)
      | else-among-via-else-among v ↦ simp (m ∙ v.if-among.false)
    ]
