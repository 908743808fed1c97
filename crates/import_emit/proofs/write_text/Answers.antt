-- `import_emit::write_text` meets its contract.
use mathlib.Core.Path.{◌∙◌}
use native.Mathlib.Omega.{arith}
use borrow.Author.Rules.{rules}
use Rattle.import_parts.specs.laws.Order.{text_parts, text_end}
use Rattle.import_emit.proofs.Going.{whole_text}
use Rattle.import_emit.proofs.Puts.{inside, put_as, full_before, behind}
use Rattle.std.proofs.lemmas.Result.{err_from_is_err_and}
use mathlib.Core.Path.{ap, sym}
use Rattle.import_emit_cases.specs.Emitting.{is_full, place}
use Rattle.import_emit.proofs.write_text.Goals as goal

pub returns-in_err-at : goal.returns-in_err-at
returns-in_err-at c = let s = c.write_site-s.ensures in
    let p = err_from_is_err_and c.from_residual.result c.from_residual.ensures.1 in
    rw (p.1, ← c.in_err-at.was) (record { same = s.same; put = λ t. put_as (whole_text t) (full_before _ (ap is_full c.in_err-at.was) (s.put t)) })

pub write_parts-requires : goal.write_parts-requires
write_parts-requires c = let s = c.write_site-s.ensures in
    let t = c.requires.0 in
    record { lent = record { short = t.bytes; long = c.requires.1; room = rw (sym (ap place c.in_ok-at.was)) (inside (omega arith) ((s.put t).put (ap is_full c.in_ok-at.was))) }; parts = text_parts t.text; spaces = text_end t.text; comes = s.on t }

pub returns : goal.returns
returns c = let s = c.write_site-s.ensures in
    let p = c.write_parts.ensures in
    record { same = p.same ∙ s.same; put = λ t. put_as (whole_text t) (behind {n = c.in_ok-at.at} (omega arith) s.same (rw (sym (ap place c.in_ok-at.was)) ((s.put t).put (ap is_full c.in_ok-at.was))) (p.put _ _ (s.on t))) }
