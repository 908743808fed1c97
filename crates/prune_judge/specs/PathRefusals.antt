-- The refusals of a path for an accepted model: 15, 14, 22, 21 and 12.
use Rattle.std.specs.Prelude.{not, List, ℕ, eqb, ltb, ℤ}
use Rattle.whole.specs.Cases.{if}
use Rattle.theory.specs.Widths.{steps_most}
use Rattle.theory.specs.Valid.{all}
use Rattle.theory.specs.Verdict.{Verdict, refusal, Site, from_to}
use Rattle.theory.specs.Value.{good_row}
use Rattle.theory.specs.Listing.{greatest_root}
use Rattle.prune_paths.specs.Prune.{diagram_at, path_number, path_needs}

unfoldable pub plan_verdict : Site → List ℤ → List ℕ → ℕ → ℕ → ℕ → List ℕ → List ℤ → Verdict
plan_verdict S nodes stages N s root turns ks =
    let G = greatest_root steps_most stages in
    let k = path_number turns (diagram_at nodes root) ks in
    if (eqb root 0) (refusal 15 0)
    (if (not (all (good_row S.conditions S.actions nodes) (from_to 1 G))) (refusal 14 0)
    (if (not (eqb k 0)) (refusal k 0)
    (if (ltb N (path_needs G turns)) (refusal 12 s) (refusal 0 0))))
