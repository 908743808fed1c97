-- What a writer promises: some bytes from a place on, nothing before them and nothing behind them changed, and the place behind them.
use Rattle.std.specs.Prelude.{◌≡◌, List, ℕ, ◌+◌, ◌*◌, length}
use Rattle.theory.specs.Listing.{written}

pub record PutAt (buffer : List ℕ) (at : ℕ) (bytes : List ℕ) (next : ℕ) (after : List ℕ) : Type 0 where
  pub behind : next ≡ at + length bytes
  pub left : after ≡ written buffer at bytes

-- a space, a sign, and no number of a table has more than 20 digits
abbrev pub number_bytes : ℕ
number_bytes = 22

-- a line that begins with so many bytes and has so many numbers is no longer
abbrev pub line_bytes : ℕ → ℕ → ℕ
line_bytes start numbers = start + number_bytes * numbers + 1
