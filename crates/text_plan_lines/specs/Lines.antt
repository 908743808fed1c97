-- A node's line behind its number, and how long lines are.
use Rattle.std.specs.Prelude.{List, [], ◌∷◌, ℕ, ◌+◌, ◌-◌, ◌*◌, eqb, ℤ, nat_abs, take, drop}
use Rattle.whole.specs.Cases.{if}
use Rattle.theory.specs.Widths.{node_words, levels_most}
use Rattle.theory.specs.Value.{node_word, high_of, low_of}
use Rattle.theory.specs.Listing.{line}
use Rattle.text_decimal.specs.Put.{number_bytes, line_bytes}

-- a node's line behind its number, the numbers as they stand in the table
unfoldable pub node_rest : List ℤ → ℕ → List ℕ
node_rest W r =
    let numbers : List ℤ = drop ((r - 1) * node_words + 1) W in
    if (eqb (nat_abs (node_word W r 0)) 0) (line (32 ∷ 86 ∷ []) (take (levels_most + 2) numbers))
    (if (eqb (nat_abs (node_word W r 0)) 1) (line (32 ∷ 66 ∷ []) (node_word W r 1 ∷ high_of W r ∷ low_of W r ∷ []))
    (if (eqb (nat_abs (node_word W r 0)) 3) (line (32 ∷ 88 ∷ []) [])
    (line (32 ∷ 76 ∷ []) (take (levels_most + 3) numbers))))

-- no line is longer, but for a node's own number: the letters of "PLAN", and the numbers of a test with its branches
abbrev pub line_most : ℕ
line_most = line_bytes 4 (levels_most + 3)

-- no node's line is longer: its letter, its number, and the rest of it
abbrev pub node_line_most : ℕ
node_line_most = number_bytes + line_most
