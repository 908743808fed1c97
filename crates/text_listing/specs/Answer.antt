-- How the code's answer and the buffer are read in the terms of document 01.
use Rattle.std.specs.Prelude.{List, ℕ}
use Rattle.theory.specs.Listing.{ListingOut}
use Rattle.text_listing.specs.declared.Listed.{Listed}

abbrev pub outcome : Listed → List ℕ → ListingOut
outcome r buffer = record { number = r.number; place = r.place; size = r.size; buffer = buffer }

abbrev pub refused_as : ℕ → ℕ → Listed
refused_as number place = record { number = number; place = place; size = 0 }

abbrev pub written_as : ℕ → Listed
written_as size = record { number = 0; place = 0; size = size }
