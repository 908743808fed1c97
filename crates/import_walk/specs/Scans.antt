-- Two scans as one: to the first letter of the next item or else, and to the end of a string.
use Rattle.std.specs.Prelude.{Bool, true, false, List, ℕ}
use Rattle.import_parts.specs.Walk.{begins, inside_after, next_letter, behind_string, quoted_after, string_rest}

-- whether a byte ends the scan, in a string or not
abbrev pub stops : Bool → Bool → ℕ → Bool
stops true b k = behind_string b k
stops false b k = begins b k

-- whether a quotation mark stands before, or whether "forbidden" goes on
abbrev pub turned : Bool → Bool → ℕ → Bool
turned true b k = quoted_after b k
turned false b k = inside_after b k

-- the bytes at which it ends
abbrev pub scan_rest : Bool → Bool → List ℕ → List ℕ
scan_rest true b l = string_rest b l
scan_rest false b l = next_letter b l
