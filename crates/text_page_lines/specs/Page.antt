-- Document 02, "A page for the pump house wall": its lines, and the page as one function of its inputs.
use Rattle.std.specs.Prelude.{Bool, not, List, [], ◌∷◌, ◌++◌, ℕ, suc, ◌+◌, ◌-◌, ◌*◌, ◌^◌, eqb, ltb, ℤ, pos, negsuc, length, replicate}
use Rattle.whole.specs.Cases.{if}
use Rattle.whole.specs.Int.{up}
use Rattle.whole.specs.Numerator.{number}
use Rattle.whole.specs.declared.Numerator.{Numerator}
use Rattle.theory.specs.Widths.{name_bytes}
use Rattle.theory.specs.Valid.{all}
use Rattle.theory.specs.Verdict.{Verdict, refusal, from_to}
use Rattle.theory.specs.Load.{site_at}
use Rattle.theory.specs.Solve.{early}
use Rattle.theory.specs.Value.{Asked, value_of}
use Rattle.theory.specs.Name.{name}
use Rattle.theory.specs.Listing.{digits, lines, written, ListingOut}
use Rattle.whole_division.specs.Floor.{floor_by}

-- ---- columns

-- "steps in 2 columns", "the value's whole part .. in 30 columns"
abbrev pub steps_columns : ℕ
steps_columns = 2

abbrev pub value_columns : ℕ
value_columns = 30

-- a whole number in decimal, with all its digits and "-" before one below zero
unfoldable pub in_decimal : ℤ → List ℕ
in_decimal (pos n) = digits n n
in_decimal (negsuc n) = 45 ∷ digits (suc n) (suc n)

-- "right-aligned" in k columns
unfoldable pub right : ℕ → List ℕ → List ℕ
right k s = replicate (k - length s) 32 ++ s

-- "padded to" k columns
unfoldable pub left : ℕ → List ℕ → List ℕ
left k s = s ++ replicate (k - length s) 32

-- what stands for a value: its whole part, and "`none` .. on the page" for "none", the only one that is read with action 0
unfoldable pub value_text : ℕ → ℤ → List ℕ
value_text a z = if (eqb a 0) (110 ∷ 111 ∷ 110 ∷ 101 ∷ []) (in_decimal z)

-- "steps in 2 columns right-aligned, a space, the value's whole part .. in 30 columns right-aligned, a space, the action's name padded to 16", and "a line end"
unfoldable pub page_line : ℕ → ℕ → ℤ → List ℕ → List ℕ
page_line h a z t = (right steps_columns (in_decimal (pos h)) ++ (32 ∷ [])) ++ ((right value_columns (value_text a z) ++ (32 ∷ [])) ++ (left name_bytes t ++ (10 ∷ [])))

-- ---- the lines of a state

-- "the value's whole part rounded downward": the value is numerator ÷ (D × W^(n×h)), with h steps left
unfoldable pub whole_part : List ℕ → Asked → ℕ → Numerator → ℤ
whole_part B q h x = floor_by (number x) (up q.den * (site_at B).weights ^ ((site_at B).conditions * h))

-- the line of stage h: value and action are what the value call reads there
unfoldable pub line_at : List ℕ → List ℤ → List ℕ → Asked → ℕ → List ℕ
line_at B nodes stages q h =
    let v = value_of B nodes stages h q in
    page_line h v.action (whole_part B q h v.numerator) (name B v.action)

-- "For one state the page has a line per stage, from 1 to the given horizon H."
unfoldable pub page_text : List ℕ → ℕ → List ℤ → List ℕ → Asked → List ℕ
page_text B H nodes stages q = lines (line_at B nodes stages q) (from_to 1 H)

-- ---- the outcome

-- the value call of some stage from 1 to H is refused with k
unfoldable pub meets : List ℕ → ℕ → List ℤ → List ℕ → Asked → ℕ → Bool
meets B H nodes stages q k = not (all (λ h. not (eqb (value_of B nodes stages h q).number k)) (from_to 1 H))

-- "Order: 10, 9, the model by offset .., 13, 15, 14, 17": 15 of any stage before 14 of any
unfoldable pub page_refusal : List ℕ → ℕ → List ℤ → List ℕ → Asked → ℕ → ℕ → Verdict
page_refusal B H nodes stages q size at =
    let v = early B H (length stages) in
    if (not (eqb v.number 0)) v
    (if (meets B H nodes stages q 13) (refusal 13 0)
    (if (meets B H nodes stages q 15) (refusal 15 0)
    (if (meets B H nodes stages q 14) (refusal 14 0)
    (if (ltb size (at + length (page_text B H nodes stages q))) (refusal 17 0)
    (refusal 0 0)))))

-- "The page goes into a lent buffer at a stated place; only its own bytes are written, and a short buffer is number 17."
unfoldable pub page : List ℕ → ℕ → List ℤ → List ℕ → Asked → List ℕ → ℕ → ListingOut
page B H nodes stages q buffer at =
    let v = page_refusal B H nodes stages q (length buffer) at in
    let t = page_text B H nodes stages q in
    if (eqb v.number 0) (record { number = 0; place = 0; size = length t; buffer = written buffer at t })
    (record { number = v.number; place = v.place; size = 0; buffer = buffer })
