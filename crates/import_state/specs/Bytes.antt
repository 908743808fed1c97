-- Limits, bytes, and the letters of words.
use Rattle.std.specs.Prelude.{Bool, true, ℕ, eqb}
use Rattle.import_grammar.specs.Grammar.{if, is_plain}
use Rattle.import_grammar.specs.Reader.{is_digit, is_blank}

-- a level's room where there is none: above every room
abbrev pub no_level : ℕ
no_level = 33

-- characters of a name
abbrev pub name_chars : ℕ
name_chars = 16

-- a digit
unfoldable pub digit : ℕ → Bool
digit k = is_digit k

-- white space: 20, 09, 0A, 0D
unfoldable pub blank : ℕ → Bool
blank k = is_blank k

-- a character of a name but the quotation mark
unfoldable pub plain : ℕ → Bool
plain k = is_plain k

-- the index of a condition
unfoldable pub four : ℕ → Bool
four k = if (eqb k 49) true (if (eqb k 50) true (if (eqb k 51) true (eqb k 52)))

-- the index of a level
unfoldable pub eight : ℕ → Bool
eight k =
    if (eqb k 49) true (if (eqb k 50) true (if (eqb k 51) true (if (eqb k 52) true
    (if (eqb k 53) true (if (eqb k 54) true (if (eqb k 55) true (eqb k 56)))))))

-- each word backwards: site 1 to 3, reward 4 to 8, chance 9 to 13, end 14 and 15, next 16 and 17, name 18 and 19, else 20 to 22
unfoldable pub letter : ℕ → ℕ
letter n =
    if (eqb n 1) 101 (if (eqb n 2) 116 (if (eqb n 3) 105
    (if (eqb n 4) 100 (if (eqb n 5) 114 (if (eqb n 6) 97 (if (eqb n 7) 119 (if (eqb n 8) 101
    (if (eqb n 9) 101 (if (eqb n 10) 99 (if (eqb n 11) 110 (if (eqb n 12) 97 (if (eqb n 13) 104
    (if (eqb n 14) 100 (if (eqb n 15) 110
    (if (eqb n 16) 116 (if (eqb n 17) 120
    (if (eqb n 18) 101 (if (eqb n 19) 109
    (if (eqb n 20) 101 (if (eqb n 21) 115 108))))))))))))))))))))

-- the letters of forbidden, backwards
unfoldable pub forbidden_letter : ℕ → ℕ
forbidden_letter n =
    if (eqb n 1) 110 (if (eqb n 2) 101 (if (eqb n 3) 100 (if (eqb n 4) 100 (if (eqb n 5) 105 (if (eqb n 6) 98 (if (eqb n 7) 114 111))))))
