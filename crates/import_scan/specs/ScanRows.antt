-- "Text outside the grammar with 24 and the offset": each answer with when it is given.
use Rattle.std.specs.Prelude.{◌≡◌, ◌↔◌, List, ℕ}
use Rattle.import_grammar.specs.Grammar.{InGrammar}
use Rattle.import_grammar.specs.Reader.{begin}
use Rattle.import_grammar.specs.laws.Viable.{Stopped, scan}
use Rattle.std.specs.Prelude.{Result, Ok, Err}
use Rattle.import_scan.specs.Answer.{answer}

pub data ScanRow (w : List ℕ) : Result (Unit {0}) ℕ → Type 0 where
  -- a "text of the grammar"
  inside : InGrammar w → ScanRow w (Ok tt)
  -- "the first byte that no text of the grammar can have there (or the length, if it only ends early)"
  outside : {i : ℕ} → Stopped w i → ScanRow w (Err i)

-- every answer is one row, and a row is the answer
abbrev pub ScanRows : Type 0
ScanRows = (w : List ℕ) (r : Result (Unit {0}) ℕ) → ScanRow w r ↔ (answer (scan begin w 0) ≡ r)
