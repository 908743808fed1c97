-- Entries as words, and the list that an array of words holds.
use Rattle.std.specs.Prelude.{◌≡◌, true, false, List, [], ◌∷◌, ℕ, zero, suc, ◌+◌, ◌*◌, ◌/◌, ◌%◌, ◌<◌, eqb, length, get_or}
use Rattle.import_going.specs.Turns.{bit_of}
use Rattle.import_list.specs.declared.Entry.{Entry}

-- the words of a list, enough for every text (import_descend::ENTRIES)
abbrev pub list_most : ℕ
list_most = 131072

-- from the lowest bit: both, sign, 32 of the mask, 6 of the count, the place
unfoldable pub packed : Entry → ℕ
packed e = (((e.at * 64 + e.count) * 4294967296 + e.mask) * 2 + bit_of e.sign) * 2 + bit_of e.both

unfoldable pub unpacked : ℕ → Entry
unpacked x = record { at = x / 1099511627776; sign = eqb (x / 2 % 2) 1; mask = x / 4 % 4294967296; count = x / 17179869184 % 64; both = eqb (x % 2) 1 }

-- what a word has room for
pub record FitsWord (e : Entry) : Type 0 where
  pub place : e.at < 524288
  pub shallow : e.count < 64
  pub low : e.mask < 4294967296

-- the first so many, the latest first
unfoldable pub entries : List ℕ → ℕ → List Entry
unfolding unpacked
entries l zero = []
entries l (suc n) = unpacked (get_or l n 0) ∷ entries l n

-- one entry more, or another in place of the latest; the list is as long as before
pub record Pushed (before : List ℕ) (n : ℕ) (e : Entry) (after : List ℕ) : Type 0 where
  pub now_are : entries after (suc n) ≡ e ∷ entries before n
  pub room : length after ≡ length before
