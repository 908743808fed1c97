-- Where no number of a text is beyond, none of any of its items is.
use Rattle.std.specs.Prelude.{◌≡◌, refl, Bool, true, false, not, ◌&&◌, List, [], ◌∷◌, ◌++◌, ℕ, ℤ}
use Rattle.std.proofs.Common.{arith}
use Rattle.theory.specs.Plain.{in_32_bits}
use Rattle.import_grammar.specs.Grammar.{Items, head, closed, named, Opening, reward, chance, next, end, Before, start, case, Text, entire}
use Rattle.import_numbers.specs.Numbers.{written, or_numbers, result_numbers, items_numbers, opening_numbers, before_numbers, numbers, all_within, beyond}
use Rattle.import_found.proofs.laws.Found.{within_apart}
use Rattle.import_found.specs.Cases.{cases_numbers}
use Rattle.import_parts.specs.Parts.{TextPart, item, name, parts, opening_parts, before_parts}
use Rattle.import_parts.specs.laws.Order.{text_parts}

-- what the commands of an item ask of its numbers
abbrev pub part_within : TextPart → Type 0
part_within (item B p q r) = (all_within (cases_numbers B) ≡ true) × (all_within (result_numbers r) ≡ true)
part_within (name p q ds r cs) = Unit {0}

abbrev pub parts_within : List TextPart → Type 0
parts_within [] = Unit {0}
parts_within (x ∷ P) = part_within x × parts_within P

-- ---- lists of numbers

and_true : (c d e : Bool) → (c && d) ≡ true → e ≡ true → (c && e) ≡ true
and_true true d e f h = h
and_true false d e f h = f

first_of : (z : ℤ) (a : List ℤ) → all_within (z ∷ a) ≡ true → (all_within (z ∷ []) ≡ true) × (all_within a ≡ true)
first_of z a e = within_apart (z ∷ []) a e

within_joined : (a b : List ℤ) → all_within a ≡ true → all_within b ≡ true → all_within (a ++ b) ≡ true
unfolding all_within
within_joined [] b e h = h
within_joined (z ∷ a) b e h = and_true (in_32_bits z) (all_within a) (all_within (a ++ b)) e (within_joined a b (first_of z a e).1 h)

-- the numbers of an item's cases are among those of all before its else
cases_within : (B : Before) → all_within (before_numbers B) ≡ true → all_within (cases_numbers B) ≡ true
unfolding before_numbers cases_numbers all_within
cases_within (start O) e = refl
cases_within (case B o p r q) e =
    let d = within_apart (before_numbers B) (or_numbers o ++ result_numbers r) e in
    within_joined (cases_numbers B) (or_numbers o ++ result_numbers r) (cases_within B d.0) d.1

-- ---- items

mutual
  unfolding items_numbers parts

  items_within : (I : Items) (P : List TextPart) → all_within (items_numbers I) ≡ true → parts_within P → parts_within (parts I P)
  items_within (head p m n A W) P e g = g
  items_within (closed B p q r) P e g =
      let d = within_apart (before_numbers B) (result_numbers r) e in
      before_within B (item B p q r ∷ P) d.0 ((cases_within B d.0, d.1), g)
  items_within (named I p q ds r cs) P e g = items_within I (name p q ds r cs ∷ P) (within_apart (items_numbers I) (written ds) e).0 (tt, g)

  opening_within : (O : Opening) (P : List TextPart) → all_within (opening_numbers O) ≡ true → parts_within P → parts_within (opening_parts O P)
  opening_within (reward I p q ds r) P e g = items_within I P (within_apart (items_numbers I) (written ds) e).0 g
  opening_within (chance I p q ds r i t) P e g = items_within I P (within_apart (items_numbers I) (written ds) e).0 g
  opening_within (next I p q ds r i t) P e g = items_within I P (within_apart (items_numbers I) (written ds) e).0 g
  opening_within (end I p t) P e g = items_within I P e g

  before_within : (B : Before) (P : List TextPart) → all_within (before_numbers B) ≡ true → parts_within P → parts_within (before_parts B P)
  before_within (start O) P e g = opening_within O P e g
  before_within (case B o p r q) P e g = before_within B P (within_apart (before_numbers B) (or_numbers o ++ result_numbers r) e).0 g

not-false : (b : Bool) → not b ≡ false → b ≡ true
not-false true h = refl
not-false false h = absurd (let z : ◌≡◌ {A = ℕ} 0 1 = cc in omega arith)

-- 25 has been asked of the whole text
pub text_within : (t : Text) → beyond t ≡ false → parts_within (text_parts t)
unfolding beyond numbers text_parts
text_within (entire I e) h = items_within I [] (not-false (all_within (items_numbers I)) h) tt
