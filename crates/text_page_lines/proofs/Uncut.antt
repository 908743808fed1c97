-- "No accepted reading has more than 29 digits and a sign, with eight levels too, so nothing is ever cut": every line of a page is 51 bytes.
use Rattle.std.specs.Prelude.{◌≡◌, Bool, List, [], ◌∷◌, eqb, ℤ, pos, nat_abs, ◌*ℤ◌, length, get_or, take, drop}
use Rattle.std.proofs.Math.Path.{refl}
use Rattle.std.proofs.Math.Bool.{true, false}
use Prim.Native.Nat.{ℕ, zero, suc, ◌+◌, ◌-◌, ◌*◌, ◌^◌, ◌≤◌, ◌<◌}
use Rattle.std.proofs.Common.{mul-le-mul, mul-le-mul_right, eq-eqb, T_not, leb→le, length-take}
use native.Mathlib.Omega.{arith}
use Rattle.std.proofs.Math.Dec.{T}
use Rattle.std.proofs.Math.ListN.{length-append}
use Rattle.whole.specs.Cases.{if, by_test, both, from_true}
use Rattle.whole.specs.Int.{up}
use Rattle.whole.specs.Magnitude.{abs_add, abs_mul}
use Rattle.whole.specs.Numerator.{number, words}
use Rattle.whole.specs.NumeratorLaws.{number_words}
use Rattle.whole.specs.declared.Numerator.{Numerator}
use Rattle.whole.specs.Within.{limit, small}
use Rattle.theory.specs.Widths.{node_words, levels_most, steps_most, name_bytes}
use Rattle.theory.specs.Form.{new_form, behind_action}
use Rattle.theory.specs.Command.{Placed, readings}
use Rattle.theory.specs.Diagram.{Linear}
use Rattle.theory.specs.Meaning.{dot}
use Rattle.theory.specs.Valid.{all, small_linear}
use Rattle.theory.specs.Verdict.{from_to}
use Rattle.theory.specs.Load.{site_at}
use Rattle.theory.specs.Solve.{early}
use Rattle.theory.specs.Value.{Asked, accepted, node_word, node_linear, high_of, good_row, numerator_of, taken, ends, walk, ValueOut, refused_value, value_at, value_of}
use Rattle.theory.specs.Name.{names_action, no_part, trimmed, named_part, name_refusal, name_part, name}
use Rattle.theory.proofs.laws.Fits.{node_fits, leaf_small}
use Rattle.theory.proofs.laws.Name.{trimmed_most}
use Rattle.theory.specs.Listing.{lines}
use Rattle.whole_division.specs.Floor.{floor_abs}
use Rattle.text_page_lines.specs.Page.{whole_part, line_at, page_text}
use Rattle.text_page_lines.specs.Columns.{FittingLine}
use Rattle.text_page_lines.specs.Uncut.{Signed32}
use Rattle.text_page_lines.proofs.LineWidth.{line_length}

-- ---- a numerator, with any number of levels

abbrev most : ℕ
most = limit * 2147483648

product_most : (c x : ℤ) → nat_abs c ≤ limit → nat_abs x ≤ 2147483648 → nat_abs (c *ℤ x) ≤ most
product_most c x h k = rw (abs_mul c x) (mul-le-mul h k)

small_abs : (z : ℤ) → T (small z) → nat_abs z ≤ limit
unfolding small
small_abs z t = leb→le (nat_abs z) limit t

dot_most : (cs xs : List ℤ) → T (all small cs) → ((i : ℕ) → nat_abs (get_or xs i (pos 0)) ≤ 2147483648) → nat_abs (dot cs xs) ≤ length cs * most
unfolding dot all
dot_most [] xs t f = omega arith
dot_most (c ∷ cs) [] t f = omega arith
dot_most (c ∷ cs) (x ∷ xs) t f =
    let s = both (small c) (all small cs) t in
    omega (arith, abs_add (c *ℤ x) (dot cs xs), product_most c x (small_abs c s.0) (f 0), dot_most cs xs s.1 (λ i. f (suc i)))

-- "with eight levels too"
pub numerator_most : (q : Asked) (p : Linear) → Signed32 q → length p.coeffs ≤ levels_most → T (small_linear p) → nat_abs (numerator_of q p) < 10 ^ 29
unfolding numerator_of small_linear
numerator_most q p s l t =
    let d = both (all small p.coeffs) (small p.const) t in
    omega (
      arith,
      abs_add (dot p.coeffs q.nums) (p.const *ℤ q.den),
      dot_most p.coeffs q.nums d.0 s.nums,
      product_most p.const q.den (small_abs p.const d.1) s.den,
      mul-le-mul_right {m = length p.coeffs} {n = levels_most} most l,
    )

-- ---- a reading

module _ (n A : ℕ) (q : Asked) (W : List ℤ) where
  abbrev step : Bool → Bool → ℕ → ℕ → ℕ
  step good leaf r below = elim good [ true ↦ if leaf r below | false ↦ 0 ]

  walk_small : (k r : ℕ) → (walk n A q W k r ≡ 0 → ⊥) → T (small_linear (node_linear W (walk n A q W k r)))
  unfolding walk
  walk_small zero r = λ z. absurd (z refl)
  walk_small (suc k) r = go (good_row n A W r) refl (ends (nat_abs (node_word W r 0))) refl (walk n A q W k (taken n q W r)) (walk_small k (taken n q W r))
    where
      go : (g : Bool) → good_row n A W r ≡ g → (l : Bool) → ends (nat_abs (node_word W r 0)) ≡ l → (w : ℕ) → ((w ≡ 0 → ⊥) → T (small_linear (node_linear W w)))
          → (step g l r w ≡ 0 → ⊥) → T (small_linear (node_linear W (step g l r w)))
      go true g true l w f z = leaf_small n A W r (node_fits n A W r (from_true g)) (from_true l)
      go true g false l w f z = f z
      go false g l e w f z = absurd (z refl)

linear_levels : (W : List ℤ) (r : ℕ) → length (node_linear W r).coeffs ≤ levels_most
unfolding node_linear
linear_levels W r = omega (arith, length-take levels_most (drop ((r - 1) * node_words + 1) W))

zero_most : nat_abs (number (words (pos 0))) < 10 ^ 29
zero_most = rw (number_words (pos 0)) (omega arith)

at_most : (q : Asked) (W : List ℤ) (r : ℕ) → Signed32 q → ((r ≡ 0 → ⊥) → T (small_linear (node_linear W r))) → nat_abs (number (value_at q W r).numerator) < 10 ^ 29
unfolding value_at
at_most q W r s f = by_test (eqb r 0) (λ b. nat_abs (number (if b (refused_value 14 0) (record { number = 0; place = 0; action = nat_abs (high_of W r); numerator = words (numerator_of q (node_linear W r)) })).numerator) < 10 ^ 29)
    (λ _. zero_most)
    (λ t. rw (number_words (numerator_of q (node_linear W r))) (numerator_most q (node_linear W r) s (linear_levels W r) (f (λ e. T_not (eqb r 0) t (from_true (eq-eqb r 0 e))))))

-- what the value call reads has at most 29 digits and a sign
pub reading_most : (B : List ℕ) (nodes : List ℤ) (stages : List ℕ) (h : ℕ) (q : Asked) → Signed32 q → nat_abs (number (value_of B nodes stages h q).numerator) < 10 ^ 29
unfolding value_of
reading_most B nodes stages h q s =
    let S = site_at B in
    let root = get_or stages (h - 1) 0 in
    go (eqb (early B h (length stages)).number 0) (accepted S.levels S.conditions q) (eqb root 0) (value_at q nodes (walk S.conditions S.actions q nodes root root))
    (at_most q nodes (walk S.conditions S.actions q nodes root root) s (walk_small S.conditions S.actions q nodes root root))
  where
    go : (a b c : Bool) (v : ValueOut) → nat_abs (number v.numerator) < 10 ^ 29
        → nat_abs (number (if a (if b (if c (refused_value 15 0) v) (refused_value 13 0)) (refused_value (early B h (length stages)).number (early B h (length stages)).place)).numerator) < 10 ^ 29
    go true true true v k = zero_most
    go true true false v k = k
    go true false c v k = zero_most
    go false b c v k = zero_most

-- a quotient downward is no longer than what is divided
pub part_most : (B : List ℕ) (q : Asked) (h : ℕ) (x : Numerator) → nat_abs (number x) < 10 ^ 29 → nat_abs (whole_part B q h x) < 10 ^ 29
unfolding whole_part
part_most B q h x k = omega (arith, floor_abs (number x) (up q.den * (site_at B).weights ^ ((site_at B).conditions * h)))

-- ---- a name

abbrev behind : Placed → ℕ
behind x = x.at + behind_action new_form

named_most : (B : List ℕ) (a : ℕ) (l : List Placed) → (named_part B a l).size ≤ name_bytes
unfolding named_part
named_most B a [] = omega arith
named_most B a (x ∷ l) = go (names_action a x.read) (named_most B a l)
  where
    go : (b : Bool) → (named_part B a l).size ≤ name_bytes → (if b (record { start = behind x; size = trimmed (drop (behind x) B) name_bytes }) (named_part B a l)).size ≤ name_bytes
    go true h = trimmed_most (drop (behind x) B) name_bytes
    go false h = h

pub name_most : (B : List ℕ) (a : ℕ) → length (name B a) ≤ name_bytes
unfolding name name_part
name_most B a = go (eqb (name_refusal B a).number 0)
  where
    go : (b : Bool) → length (take (if b (named_part B a (readings B)) no_part).size (drop (if b (named_part B a (readings B)) no_part).start B)) ≤ name_bytes
    go true = omega (arith, length-take (named_part B a (readings B)).size (drop (named_part B a (readings B)).start B), named_most B a (readings B))
    go false = omega arith

-- ---- the page

module _ (B : List ℕ) (nodes : List ℤ) (stages : List ℕ) (q : Asked) (s : Signed32 q) where
  -- a line can hold its steps, its value and its name
  pub line_fits : (h : ℕ) → h < 10 → FittingLine h (whole_part B q h (value_of B nodes stages h q).numerator) (name B (value_of B nodes stages h q).action)
  line_fits h k = record { steps = k; value = part_most B q h _ (reading_most B nodes stages h q s); name = name_most B (value_of B nodes stages h q).action }

  -- "Each line is exactly 50 columns and a line end"
  pub line_bytes : (h : ℕ) → h < 10 → length (line_at B nodes stages q h) ≡ 51
  unfolding line_at
  line_bytes h k = line_length (value_of B nodes stages h q).action (line_fits h k)

  lines_bytes : (a k : ℕ) → a + k ≤ 10 → length (lines (line_at B nodes stages q) (from_to a k)) ≡ 51 * k
  unfolding lines from_to
  lines_bytes a zero h = omega arith
  lines_bytes a (suc k) h = omega (arith, length-append (line_at B nodes stages q a) (lines (line_at B nodes stages q) (from_to (suc a) k)), line_bytes a (omega arith), lines_bytes (suc a) k (omega arith))

  pub page_bytes : (H : ℕ) → H ≤ steps_most → length (page_text B H nodes stages q) ≡ 51 * H
  unfolding page_text
  page_bytes H h = lines_bytes 1 H (omega arith)
