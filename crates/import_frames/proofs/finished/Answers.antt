-- `import_frames::finished` meets its contract: what is held stays; a total of nine numbers that fit is what `compared_with` requires, and any other is over.
use mathlib.Core.Path.{refl, sym, ap, ◌∙◌}
use mathlib.Core.List.{List}
use lib.IntN.{ℤ}
use lib.ListN.{length}
use Rattle.import_numbers.specs.Numbers.{all_within}
use Rattle.import_frames.specs.Frames.{total, compared_with, finished}
use Rattle.import_frames.specs.Kept as kept
use Rattle.import_frames.proofs.Laws.{yes, no, hit, miss}
use Rattle.import_frames.proofs.finished.Goals as goal

pub returns-then-s-eq-HELD : goal.returns-then-s-eq-HELD
unfolding finished
returns-then-s-eq-HELD c = hit c.args.s.mode 4 _ _ c.if-s-eq-HELD.true (refl)

pub compared_with-requires : goal.compared_with-requires
compared_with-requires c = (c.requires, record { long = ap (λ (l : List ℤ). length l) c.total-t.ensures ∙ kept.total_long c.args.s c.requires; within = sym c.all_fit.ensures ∙ c.if-all_fit.true })

pub returns-then-all_fit : goal.returns-then-all_fit
unfolding finished
returns-then-all_fit c = miss c.args.s.mode 4 _ _ c.if-s-eq-HELD.false (yes (all_within (total c.args.s)) _ _
    (c.all_fit.ensures ∙ ap all_within c.total-t.ensures) c.if-all_fit.true
    (c.compared_with.ensures ∙ ap (compared_with c.args.s) c.total-t.ensures))

pub returns : goal.returns
unfolding finished
returns c = miss c.args.s.mode 4 _ _ c.if-s-eq-HELD.false (no (all_within (total c.args.s)) _ _ (c.all_fit.ensures ∙ ap all_within c.total-t.ensures) c.if-all_fit.false c.over.ensures)
