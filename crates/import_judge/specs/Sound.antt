-- What a text that is not refused has: a reading without a number beyond.
use Rattle.std.specs.Prelude.{◌≡◌, false, List, ℕ, ◌≤◌, length}
use Rattle.import_grammar.specs.Grammar.{Text, text_bytes}
use Rattle.import_numbers.specs.Numbers.{beyond}
use Rattle.import_model.specs.Import.{text_most}

pub record SoundText (w : List ℕ) : Type 0 where
  pub text : Text
  pub bytes : length w ≤ text_most
  pub reading : text_bytes text ≡ w
  pub within : beyond text ≡ false
