-- The answer that stands for an outcome.
use Rattle.import_grammar.specs.laws.Viable.{Outcome, fine, stops}
use Rattle.std.specs.Prelude.{Result, Ok, Err, ℕ}

-- a text of the grammar; "with 24 and the offset of the first byte that no text of the grammar can have there (or the length, if
-- it only ends early)"
unfoldable pub answer : Outcome → Result (Unit {0}) ℕ
answer (fine t) = Ok tt
answer (stops i) = Err i
