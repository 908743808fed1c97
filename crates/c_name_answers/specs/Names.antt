-- The answer of a name: place, length, the name, zeros up to 16.
use Rattle.std.specs.Prelude.{List, ◌++◌, ℕ, ◌-◌, length, replicate}
use Rattle.theory.specs.Widths.{name_bytes}
use Rattle.theory.specs.Name.{name_refusal, name}
use Rattle.c_answers.specs.Answers.{pair_bytes, Answer, answer}

-- zeros up to 16 bytes
unfoldable pub padded_name : List ℕ → List ℕ
padded_name t = t ++ replicate (name_bytes - length t) 0

abbrev pub name_size : ℕ
name_size = 24

unfoldable pub named_bytes : ℕ → List ℕ → List ℕ
named_bytes place t = pair_bytes place (length t) ++ padded_name t

-- the name of action a
unfoldable pub name_answer : List ℕ → ℕ → List ℕ → Answer
name_answer B a out = answer name_size (name_refusal B a).number (named_bytes (name_refusal B a).place (name B a)) out
