-- The answer of reading a value, or of working it plainly.
use Rattle.std.specs.Prelude.{List, ◌++◌, ℕ, ℤ}
use Rattle.std.specs.Int.{w64}
use Rattle.std.proofs.Common.{of_z}
use Rattle.theory.specs.Value.{ValueOut}
use Rattle.c_answers.specs.Answers.{le, pair_bytes, Answer, answer}

-- low word, high word; the signed one as its 64 bits
unfoldable pub word_bytes : ℕ → ℤ → List ℕ
word_bytes low high = le 8 low ++ le 8 (of_z w64 high)

abbrev pub value_size : ℕ
value_size = 24

unfoldable pub value_bytes : ValueOut → List ℕ
value_bytes v = pair_bytes v.place v.action ++ word_bytes v.numerator.low v.numerator.high

-- a value read, or worked plainly
unfoldable pub value_answer : ValueOut → List ℕ → Answer
value_answer v out = answer value_size v.number (value_bytes v) out
