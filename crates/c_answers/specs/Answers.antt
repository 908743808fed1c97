-- "What cannot cross as it is crosses as bytes, low byte first": each export returns a number, and the rest of its answer stands at the start of a lent slice.
use Rattle.std.specs.Prelude.{List, [], ◌∷◌, ◌++◌, ℕ, zero, suc, ◌/◌, ◌%◌, eqb, ltb, length, drop}
use Rattle.whole.specs.Cases.{if}
use Rattle.theory.specs.Verdict.{or}

-- ---- the bytes of an answer

-- k bytes of a number, the low one first
unfoldable pub le : ℕ → ℕ → List ℕ
le zero x = []
le (suc k) x = (x % 256) ∷ le k (x / 256)

-- place, and a second number: peak, action, or length
unfoldable pub pair_bytes : ℕ → ℕ → List ℕ
pair_bytes place second = le 4 place ++ le 4 second

abbrev pub pair_size : ℕ
pair_size = 8

-- ---- number and lent bytes after a call

-- "17: buffer too short" in its place of the order: it yields to every refusal but 11 and 12
unfoldable pub short : ℕ → ℕ
short number = if (or (eqb number 0) (or (eqb number 11) (eqb number 12))) 17 number

pub record Answer : Type 0 where
  pub number : ℕ
  pub out : List ℕ

abbrev pub answered : ℕ → List ℕ → Answer
answered number out = record { number = number; out = out }

-- too short a slice is left as it is; else exactly the answer's bytes are written
unfoldable pub answer : ℕ → ℕ → List ℕ → List ℕ → Answer
answer size number bytes out = if (ltb (length out) size) (answered (short number) out) (answered number (bytes ++ drop size out))
