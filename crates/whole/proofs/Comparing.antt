-- What the code's comparisons say: of two numbers, and of two lists.
use Rattle.std.proofs.Common.{◌≡◌, ℕ, zero, suc, ◌+◌, ◌^◌, ◌<◌, ◌≤◌, Bool, true, false, List, length, get_or, drop, ℤ, pos, negsuc, sym, refl, ap, ◌∙◌, ap₂, arith, drop_of_length-le, w64, SFits, ltb-false, ltb-true}
use Prim.Native.Nat.compare
use Prim.Native.Nat.{compare, Ordering}
use lib.Signed.{mag, lt_z}
use Rattle.whole.specs.Linears.{numbers, then, cmp_ℤ, cmp_list, ord_num}
use Rattle.whole.specs.LinearsLaws.{rest}
use Rattle.whole.proofs.Signed.{R, back}

-- ---- the order of two numbers

no : {A : Type 0} → true ≡ false → A
no e = absurd (let z : ◌≡◌ {A = ℕ} 0 1 = cc in omega arith)

pub lt_cmp : (a b : ℕ) → a < b → compare a b ≡ Ordering.lt
lt_cmp zero zero h = absurd (omega arith)
lt_cmp zero (suc b) h = compare.zero-suc b
lt_cmp (suc a) zero h = absurd (omega arith)
lt_cmp (suc a) (suc b) h = compare.suc-suc a b ∙ lt_cmp a b (omega arith)

pub gt_cmp : (a b : ℕ) → b < a → compare a b ≡ Ordering.gt
gt_cmp zero b h = absurd (omega arith)
gt_cmp (suc a) zero h = compare.suc-zero a
gt_cmp (suc a) (suc b) h = compare.suc-suc a b ∙ gt_cmp a b (omega arith)

order_refl : (a : ℕ) → compare a a ≡ Ordering.eq
order_refl zero = compare.zero-zero
order_refl (suc a) = compare.suc-suc a a ∙ order_refl a

pub eq_cmp : (a b : ℕ) → a ≡ b → compare a b ≡ Ordering.eq
eq_cmp a b e = ap (compare a) (sym e) ∙ order_refl a

pub cmp_lt : (a b : ℤ) → lt_z a b ≡ true → cmp_ℤ a b ≡ Ordering.lt
cmp_lt (pos a) (pos b) e = lt_cmp a b (ltb-true a b e)
cmp_lt (pos a) (negsuc b) e = no (sym e)
cmp_lt (negsuc a) (pos b) e = refl
cmp_lt (negsuc a) (negsuc b) e = lt_cmp b a (ltb-true b a e)

pub cmp_gt : (a b : ℤ) → lt_z b a ≡ true → cmp_ℤ a b ≡ Ordering.gt
cmp_gt (pos a) (pos b) e = gt_cmp a b (ltb-true b a e)
cmp_gt (pos a) (negsuc b) e = refl
cmp_gt (negsuc a) (pos b) e = no (sym e)
cmp_gt (negsuc a) (negsuc b) e = gt_cmp b a (ltb-true a b e)

pub cmp_same : (a b : ℤ) → lt_z a b ≡ false → lt_z b a ≡ false → cmp_ℤ a b ≡ Ordering.eq
cmp_same (pos a) (pos b) e d = let x = ltb-false a b e in let y = ltb-false b a d in eq_cmp a b (omega arith)
cmp_same (pos a) (negsuc b) e d = no d
cmp_same (negsuc a) (pos b) e d = no e
cmp_same (negsuc a) (negsuc b) e d = let x = ltb-false b a e in let y = ltb-false a b d in eq_cmp b a (omega arith)

pub lt_of : (a b : ℤ) {t : Bool} → SFits w64 a → SFits w64 b → lt_z (R a) (R b) ≡ t → lt_z a b ≡ t
lt_of a b fa fb e = sym (ap₂ lt_z (back a fa) (back b fb)) ∙ e

-- ---- the order as a number

pub num_lt : (o : Ordering) {r : ℕ} → r ≡ ord_num o → r ≡ 0 → o ≡ Ordering.lt
unfolding ord_num
num_lt Ordering.lt e d = refl
num_lt Ordering.eq e d = absurd (omega arith)
num_lt Ordering.gt e d = absurd (omega arith)

pub num_eq : (o : Ordering) {r : ℕ} → r ≡ ord_num o → r ≡ 1 → o ≡ Ordering.eq
unfolding ord_num
num_eq Ordering.lt e d = absurd (omega arith)
num_eq Ordering.eq e d = refl
num_eq Ordering.gt e d = absurd (omega arith)

pub num_gt : (o : Ordering) {r : ℕ} → r ≡ ord_num o → (r ≡ 0 → ⊥) → (r ≡ 1 → ⊥) → o ≡ Ordering.gt
unfolding ord_num
num_gt Ordering.lt e d c = absurd (d e)
num_gt Ordering.eq e d c = absurd (c e)
num_gt Ordering.gt e d c = refl

-- the first that differs decides
pub then_here : (o p : Ordering) {r : ℕ} → r ≡ ord_num o → (r ≡ 1 → ⊥) → r ≡ ord_num (then o p)
unfolding ord_num
then_here Ordering.lt p e n = e
then_here Ordering.eq p e n = absurd (n e)
then_here Ordering.gt p e n = e

pub then_on : (o p : Ordering) {r s : ℕ} → r ≡ ord_num o → r ≡ 1 → s ≡ ord_num p → s ≡ ord_num (then o p)
unfolding ord_num
then_on Ordering.lt p e n q = absurd (omega arith)
then_on Ordering.eq p e n q = q
then_on Ordering.gt p e n q = absurd (omega arith)

pub cmp_back : (a b : ℤ) {r : ℕ} → mag a < 2 ^ 63 → mag b < 2 ^ 63 → r ≡ ord_num (cmp_ℤ (R a) (R b)) → r ≡ ord_num (cmp_ℤ a b)
cmp_back a b fa fb e = e ∙ ap₂ (λ (x y : ℤ). ord_num (cmp_ℤ x y)) (back a (record { sfits = fa })) (back b (record { sfits = fb }))

-- ---- two lists: what is left of them decides

module _ (a b : List ℤ) (ea : length a ≡ numbers) (eb : length b ≡ numbers) (i : ℕ) (is : cmp_list (drop i a) (drop i b) ≡ cmp_list a b) where
  abbrev x : ℤ
  x = get_or a i (pos 0)

  abbrev y : ℤ
  y = get_or b i (pos 0)

  here : i < numbers → then (cmp_ℤ x y) (cmp_list (drop (i + 1) a) (drop (i + 1) b)) ≡ cmp_list a b
  unfolding cmp_list
  here h = sym (ap₂ cmp_list (rest a i (omega arith)) (rest b i (omega arith))) ∙ is

  module _ (h : i < numbers) (fx : mag x < 2 ^ 63) (fy : mag y < 2 ^ 63) {r : ℕ} (e : r ≡ ord_num (cmp_ℤ (R x) (R y))) where
    pub order_differs : (r ≡ 1 → ⊥) → r ≡ ord_num (cmp_list a b)
    order_differs n = then_here (cmp_ℤ x y) _ (cmp_back x y fx fy e) n ∙ ap ord_num (here h)

    pub order_goes : r ≡ 1 → cmp_list (drop (i + 1) a) (drop (i + 1) b) ≡ cmp_list a b
    order_goes n = sym (ap (λ (o : Ordering). then o (cmp_list (drop (i + 1) a) (drop (i + 1) b))) (num_eq (cmp_ℤ x y) (cmp_back x y fx fy e) n)) ∙ here h

  pub order_ends : numbers ≤ i → 1 ≡ ord_num (cmp_list a b)
  unfolding ord_num cmp_list
  order_ends h = ap ord_num (sym (ap₂ cmp_list (drop_of_length-le a {i = i} (omega arith)) (drop_of_length-le b {i = i} (omega arith))) ∙ is)
