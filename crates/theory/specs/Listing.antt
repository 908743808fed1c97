-- "The pond, and its listing": the text of a plan, and the listing as one function of its inputs.
use Rattle.std.specs.Prelude.{not, List, [], ◌∷◌, ◌++◌, map, ℕ, zero, suc, ◌+◌, ◌-◌, ◌/◌, ◌%◌, max, eqb, ltb, ℤ, pos, negsuc, nat_abs, length, get_or, take, drop}
use Rattle.whole.specs.Cases.{if}
use Rattle.theory.specs.Diagram.{Linear}
use Rattle.theory.specs.Valid.{all}
use Rattle.theory.specs.Verdict.{Verdict, refusal, Site, from_to}
use Rattle.theory.specs.Load.{site_at}
use Rattle.theory.specs.Solve.{early}
use Rattle.theory.specs.Value.{node_word, node_linear, high_of, low_of, good_row}

-- ---- numbers and lines

-- decimal digits, at most k + 1 of them
unfoldable pub digits : ℕ → ℕ → List ℕ
digits zero x = (48 + x % 10) ∷ []
digits (suc k) x = if (ltb x 10) ((48 + x % 10) ∷ []) (digits k (x / 10) ++ ((48 + x % 10) ∷ []))

-- a space and a number: no number of a table has more than 20 digits
unfoldable pub spaced : ℤ → List ℕ
spaced (pos n) = 32 ∷ digits 19 n
spaced (negsuc n) = 32 ∷ 45 ∷ digits 19 (suc n)

-- each after a space
unfoldable pub spaced_all : List ℤ → List ℕ
spaced_all [] = []
spaced_all (z ∷ l) = spaced z ++ spaced_all l

-- "Each line ends with byte 0A."
abbrev pub line : List ℕ → List ℤ → List ℕ
line start l = start ++ (spaced_all l ++ (10 ∷ []))

-- "PLAN": m, n, A, W, horizon
unfoldable pub first_line : Site → ℕ → List ℕ
first_line S H = line (80 ∷ 76 ∷ 65 ∷ 78 ∷ []) (map pos (S.levels ∷ S.conditions ∷ S.actions ∷ S.weights ∷ H ∷ []))

-- "numbers": the coefficients, then the constant
abbrev pub numbers_of : Linear → List ℤ
numbers_of p = p.coeffs ++ (p.const ∷ [])

-- "N: number, kind, numbers; V ends with the action, L with high and low; a condition is B, its number, high, low."; of a leaf "none" "the letter X alone for kind and numbers"
unfoldable pub node_line : List ℤ → ℕ → List ℕ
node_line W r =
    let start : List ℕ = 78 ∷ spaced (pos r) in
    if (eqb (nat_abs (node_word W r 0)) 0) (line (start ++ (32 ∷ 86 ∷ [])) (numbers_of (node_linear W r) ++ (high_of W r ∷ [])))
    (if (eqb (nat_abs (node_word W r 0)) 1) (line (start ++ (32 ∷ 66 ∷ [])) (node_word W r 1 ∷ high_of W r ∷ low_of W r ∷ []))
    (if (eqb (nat_abs (node_word W r 0)) 3) (line (start ++ (32 ∷ 88 ∷ [])) [])
    (line (start ++ (32 ∷ 76 ∷ [])) (numbers_of (node_linear W r) ++ (high_of W r ∷ low_of W r ∷ [])))))

-- "S: stage, root."
unfoldable pub stage_line : List ℕ → ℕ → List ℕ
stage_line stages h = line (83 ∷ []) (pos h ∷ pos (get_or stages (h - 1) 0) ∷ [])

-- a line for each
unfoldable pub lines : {A : Type 0} → (A → List ℕ) → List A → List ℕ
lines f [] = []
lines f (x ∷ l) = f x ++ lines f l

-- the greatest root of stages 1 to H
unfoldable pub greatest_root : ℕ → List ℕ → ℕ
greatest_root zero stages = 0
greatest_root (suc H) stages = max (greatest_root H stages) (get_or stages H 0)

-- the text of a plan
unfoldable pub text : Site → ℕ → List ℤ → List ℕ → List ℕ
text S H nodes stages =
    first_line S H ++ (lines (node_line nodes) (from_to 1 (greatest_root H stages)) ++ lines (stage_line stages) (from_to 1 H))

-- "A refusal prints `R number place`."
unfoldable pub refusal_line : Verdict → List ℕ
refusal_line v = line (82 ∷ []) (pos v.number ∷ pos v.place ∷ [])

-- ---- the outcome

-- number and place, how many bytes were written, and the buffer
pub record ListingOut : Type 0 where
  pub number : ℕ
  pub place : ℕ
  pub size : ℕ
  pub buffer : List ℕ

-- "the library writes from any stated place and touches nothing before it"
unfoldable pub written : List ℕ → ℕ → List ℕ → List ℕ
written buffer at bytes = take at buffer ++ (bytes ++ drop (at + length bytes) buffer)

-- "Order: 10, 9, the model by offset .., 15, 14, 17"
unfoldable pub listing_refusal : List ℕ → ℕ → List ℤ → List ℕ → ℕ → ℕ → Verdict
listing_refusal B H nodes stages size at =
    let v = early B H (length stages) in
    let S = site_at B in
    if (not (eqb v.number 0)) v
    (if (not (all (λ h. not (eqb (get_or stages (h - 1) 0) 0)) (from_to 1 H))) (refusal 15 0)
    (if (not (all (good_row S.conditions S.actions nodes) (from_to 1 (greatest_root H stages)))) (refusal 14 0)
    (if (ltb size (at + length (text S H nodes stages))) (refusal 17 0)
    (refusal 0 0))))

-- a listing into a buffer, from a stated place on
unfoldable pub listing : List ℕ → ℕ → List ℤ → List ℕ → List ℕ → ℕ → ListingOut
listing B H nodes stages buffer at =
    let v = listing_refusal B H nodes stages (length buffer) at in
    let t = text (site_at B) H nodes stages in
    if (eqb v.number 0) (record { number = 0; place = 0; size = length t; buffer = written buffer at t })
    (record { number = v.number; place = v.place; size = 0; buffer = buffer })
