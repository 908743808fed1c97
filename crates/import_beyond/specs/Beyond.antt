-- "a number beyond signed 32 bits .. with 25 once the whole text is in the grammar".
use Rattle.std.specs.Prelude.{◌≡◌, Bool, List, ℕ}
use Rattle.import_grammar.specs.Grammar.{Text, text_bytes}
use Rattle.import_numbers.specs.Numbers.{beyond}

-- of each text of the grammar
pub record JudgesText (w : List ℕ) (r : Bool) : Type 0 where
  pub judges : (t : Text) → text_bytes t ≡ w → r ≡ beyond t
