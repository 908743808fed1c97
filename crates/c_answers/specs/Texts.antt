-- The answer of a call that writes a text: a listing, a page, or a model in the other form.
use Rattle.std.specs.Prelude.{List, ◌++◌, ℕ, ltb, length, drop}
use Rattle.whole.specs.Cases.{if}
use Rattle.theory.specs.Listing.{ListingOut}
use Rattle.c_answers.specs.Answers.{pair_bytes, pair_size, short}

-- a listing also has its text; with too short an `out` that too is left as it is
pub record ListingAnswer : Type 0 where
  pub number : ℕ
  pub out : List ℕ
  pub text : List ℕ

abbrev pub listed : ℕ → List ℕ → List ℕ → ListingAnswer
listed number out text = record { number = number; out = out; text = text }

unfoldable pub listing_answer : ListingOut → List ℕ → List ℕ → ListingAnswer
listing_answer v text out =
    if (ltb (length out) pair_size) (listed (short v.number) out text)
    (listed v.number (pair_bytes v.place v.size ++ drop pair_size out) v.buffer)
