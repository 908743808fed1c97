-- The outcome of a listing for an accepted model: 15, 14 and 17, or the text.
use Rattle.std.specs.Prelude.{Bool, not, List, ℕ, ◌+◌, ◌-◌, eqb, ltb, ℤ, length, get_or}
use Rattle.whole.specs.Cases.{if}
use Rattle.theory.specs.Valid.{all}
use Rattle.theory.specs.Verdict.{Site, from_to}
use Rattle.theory.specs.Value.{good_row}
use Rattle.theory.specs.Listing.{greatest_root, text, written, ListingOut}

-- stage h has a root
abbrev pub rooted : List ℕ → ℕ → Bool
rooted stages h = not (eqb (get_or stages (h - 1) 0) 0)

abbrev pub rows_good : Site → ℕ → List ℤ → List ℕ → Bool
rows_good S H nodes stages = all (good_row S.conditions S.actions nodes) (from_to 1 (greatest_root H stages))

-- 15, then 14
unfoldable pub plan_refusal : Site → ℕ → List ℤ → List ℕ → ℕ
plan_refusal S H nodes stages = if (not (all (rooted stages) (from_to 1 H))) 15 (if (not (rows_good S H nodes stages)) 14 0)

abbrev pub refused_listing : ℕ → ℕ → List ℕ → ListingOut
refused_listing number place buffer = record { number = number; place = place; size = 0; buffer = buffer }

-- then 17
unfoldable pub plan_listing : Site → ℕ → List ℤ → List ℕ → List ℕ → ℕ → ListingOut
plan_listing S H nodes stages buffer at =
    let number = plan_refusal S H nodes stages in
    let t = text S H nodes stages in
    if (not (eqb number 0)) (refused_listing number 0 buffer)
    (if (ltb (length buffer) (at + length t)) (refused_listing 17 0 buffer)
    (record { number = 0; place = 0; size = length t; buffer = written buffer at t }))
