-- What a host reads back: the place of a refusal and the numbers behind it, none cut to its bytes.
use mathlib.Core.Path.{◌≡◌, ap, ◌∙◌}
use mathlib.Core.Bool.{Bool, true, false, not}
use mathlib.Core.List.{List, [], ◌∷◌}
use Prim.Native.Nat.{ℕ, zero, suc, ◌+◌, ◌-◌, ◌*◌, ◌/◌, ◌^◌, ◌≤◌, ◌<◌}
use native.Mathlib.Omega.{arith}
use lib.Dec.{T, eqb, ltb, nltb→le}
use lib.IntN.{ℤ}
use lib.ListN.{length, get_or, take}
use lib.Seq.{take_at}
use Rattle.whole.specs.Cases.{if, by_test}
use Rattle.theory.specs.Widths.{bytes_most}
use Rattle.theory.specs.Valid.{all, among}
use Rattle.theory.specs.Verdict.{Verdict, refusal, verdict, or, from_to}
use Rattle.theory.specs.Load.{site_at}
use Rattle.theory.specs.Solve.{early}
use Rattle.theory.specs.Value.{Asked, accepted, good_row, walk, ValueOut, refused_value, value_at, value_of}
use Rattle.theory.specs.Name.{name_refusal}
use Rattle.theory.specs.Listing.{greatest_root, text, written, ListingOut, listing_refusal, listing}
use Rattle.theory.proofs.laws.Rows.{verdict_row, place_inside}
use Rattle.c_answers.specs.Answers.{le, pair_bytes}
use Rattle.c_answers.proofs.Bytes.{le_length}

-- the number that some bytes spell, the low one first
unfoldable pub spelled : List ℕ → ℕ
spelled [] = 0
spelled (b ∷ l) = b + 256 * spelled l

pub spelled_le : (k x : ℕ) → x < 256 ^ k → spelled (le k x) ≡ x
unfolding spelled le
spelled_le zero x h = omega arith
spelled_le (suc k) x h =
    let e = spelled_le k (x / 256) (omega arith) in
    omega arith

-- a place in a model, or none
early_place : (B : List ℕ) (steps words : ℕ) → (early B steps words).place ≤ bytes_most
unfolding early
early_place B steps words =
    by_test (or (not (eqb words 8)) (ltb bytes_most (length B))) (λ b. (if b (refusal 10 0) (if (not (among 8 steps)) (refusal 9 0) (verdict B))).place ≤ bytes_most)
    (λ _. omega arith)
    (λ t. by_test (not (among 8 steps)) (λ b. (if b (refusal 9 0) (verdict B)).place ≤ bytes_most) (λ _. omega arith)
    (λ _. let h = short_enough (not (eqb words 8)) (ltb bytes_most (length B)) t in omega (arith, nltb→le bytes_most (length B) h, place_inside B (verdict_row B))))
  where
    short_enough : (a b : Bool) → T (not (or a b)) → T (not b)
    short_enough true b t = absurd t
    short_enough false b t = t

leaf_place : (q : Asked) (W : List ℤ) (r : ℕ) → (value_at q W r).place ≤ bytes_most
unfolding value_at
leaf_place q W r = go (eqb r 0) _ (omega arith)
  where
    go : (b : Bool) (o : ValueOut) → o.place ≤ bytes_most → (if b (refused_value 14 0) o).place ≤ bytes_most
    go true o h = omega arith
    go false o h = h

pub value_place : (B : List ℕ) (nodes : List ℤ) (stages : List ℕ) (steps : ℕ) (q : Asked) → (value_of B nodes stages steps q).place ≤ bytes_most
unfolding value_of
value_place B nodes stages steps q =
    let S = site_at B in
    let root = get_or stages (steps - 1) 0 in
    go (eqb (early B steps (length stages)).number 0) (accepted S.levels S.conditions q) (eqb root 0)
    (value_at q nodes (walk S.conditions S.actions q nodes root root)) (early B steps (length stages))
    (leaf_place q nodes (walk S.conditions S.actions q nodes root root)) (early_place B steps (length stages))
  where
    go : (a b c : Bool) (o : ValueOut) (v : Verdict) → o.place ≤ bytes_most → v.place ≤ bytes_most → (if a (if b (if c (refused_value 15 0) o) (refused_value 13 0)) (refused_value v.number v.place)).place ≤ bytes_most
    go false b c o v h k = k
    go true false c o v h k = omega arith
    go true true true o v h k = omega arith
    go true true false o v h k = h

pub name_place : (B : List ℕ) (a : ℕ) → (name_refusal B a).place ≤ bytes_most
unfolding name_refusal
name_place B a = go (eqb (early B 1 8).number 0) (among (site_at B).actions a) (early B 1 8) (early_place B 1 8)
  where
    go : (a b : Bool) (v : Verdict) → v.place ≤ bytes_most → (if a (if b (refusal 0 0) (refusal 16 0)) v).place ≤ bytes_most
    go false b v h = h
    go true true v h = omega arith
    go true false v h = omega arith

module _ (B : List ℕ) (H : ℕ) (nodes : List ℤ) (stages buffer : List ℕ) (at : ℕ) where
  refusal_place : (listing_refusal B H nodes stages (length buffer) at).place ≤ bytes_most
  unfolding listing_refusal
  refusal_place =
      let v = early B H (length stages) in
      let S = site_at B in
      go (not (eqb v.number 0)) (not (all (λ h. not (eqb (get_or stages (h - 1) 0) 0)) (from_to 1 H)))
      (not (all (good_row S.conditions S.actions nodes) (from_to 1 (greatest_root H stages)))) (ltb (length buffer) (at + length (text S H nodes stages))) v
      (early_place B H (length stages))
    where
      go : (a b c d : Bool) (v : Verdict) → v.place ≤ bytes_most → (if a v (if b (refusal 15 0) (if c (refusal 14 0) (if d (refusal 17 0) (refusal 0 0))))).place ≤ bytes_most
      go true b c d v h = h
      go false true c d v h = omega arith
      go false false true d v h = omega arith
      go false false false true v h = omega arith
      go false false false false v h = omega arith

  pub listing_place : (listing B H nodes stages buffer at).place ≤ bytes_most
  unfolding listing
  listing_place =
      let v = listing_refusal B H nodes stages (length buffer) at in
      let t = text (site_at B) H nodes stages in
      by_test (eqb v.number 0)
      (λ b. (if {A = ListingOut} b (record { number = 0; place = 0; size = length t; buffer = written buffer at t }) (record { number = v.number; place = v.place; size = 0; buffer = buffer })).place ≤ bytes_most)
      (λ _. omega arith) (λ _. refusal_place)

-- the first number of an answer, read back
pub place_read : (place second : ℕ) → place ≤ bytes_most → spelled (take 4 (pair_bytes place second)) ≡ place
unfolding pair_bytes
place_read place second h = ap spelled (take_at (le 4 place) (le 4 second) 4 (le_length 4 place)) ∙ spelled_le 4 place (omega arith)
