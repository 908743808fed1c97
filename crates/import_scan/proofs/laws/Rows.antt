-- The rows are the answers.
use Rattle.std.specs.Prelude.{◌≡◌, refl, List, ℕ}
use Rattle.std.proofs.Common.{ap, subst}
use Rattle.import_grammar.specs.Grammar.{InGrammar}
use Rattle.import_grammar.specs.Reader.{begin}
use Rattle.import_grammar.specs.laws.Viable.{Outcome, fine, stops, Right, scan}
use Rattle.import_grammar.proofs.laws.Viable.{scan_right}
use Rattle.import_grammar.proofs.laws.Unique.{one_place, stops_outside}
use Rattle.std.specs.Prelude.{Result, Ok, Err}
use Rattle.import_scan.specs.Answer.{answer}
use Rattle.import_scan.specs.ScanRows.{ScanRow, inside, outside, ScanRows}

row_of : (w : List ℕ) (o : Outcome) → Right w o → ScanRow w (answer o)
unfolding answer InGrammar
row_of w (fine t) e = inside (t, e)
row_of w (stops i) s = outside s

row_is : (w : List ℕ) (o : Outcome) → Right w o → (r : Result (Unit {0}) ℕ) → ScanRow w r → answer o ≡ r
unfolding answer InGrammar
row_is w (fine t) e (Ok u) (inside g) = refl
row_is w (fine t) e (Err i) (outside s) = absurd (stops_outside w i s (t, e))
row_is w (stops i) s (Ok u) (inside g) = absurd (stops_outside w i s g)
row_is w (stops i) s (Err j) (outside t) = ap Err (one_place w i j s t)

pub scan_rows : ScanRows
scan_rows w r =
    (λ x. row_is w (scan begin w 0) (scan_right w) r x, λ e. subst (ScanRow w) e (row_of w (scan begin w 0) (scan_right w)))
