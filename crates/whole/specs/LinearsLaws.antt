-- Lists of numbers: their lengths, each number of a result, and what is read from the rest of a list.
use Rattle.std.specs.Prelude.{◌≡◌, ℕ, zero, suc, ◌+◌, ◌<◌, Bool, true, false, ◌&&◌, List, [], ◌∷◌, length, take, drop, ℤ, pos, negsuc, ◌+ℤ◌, ◌-ℤ◌, ◌*ℤ◌, neg_ℤ, int_div, slice_index_or, unsigned_abs, refl}
use Rattle.std.proofs.Common.{sym, ap, ap₂, ◌∙◌, le_of_suc-le-suc, not-suc-le-zero, div-one, add-one, arith, leb-true, eqb-true, eq-eqb, drop-cons}
use Rattle.std.proofs.Math.Nat.{suc_inj}
use Rattle.std.proofs.Math.IntN.{+ℤ_assoc, +ℤ_comm}
use Rattle.std.proofs.lemmas.List.{length-map}
use Rattle.whole.specs.Int.{minus_one}
use Rattle.whole.specs.Within.{limit, Small, small}
use Rattle.whole.specs.Magnitude.{abs_quot}
use Rattle.whole.specs.Linears.{numbers, Smalls, smalls, add_list, scale_list, sub_list, clipped, clip_list, quot_list, dot_list, eq_ℤ, eq_list}

-- ---- lengths

pub add_length : (a b : List ℤ) → length a ≡ length b → length (add_list a b) ≡ length a
unfolding add_list
add_length [] [] e = refl
add_length [] (y ∷ b) e = absurd (omega arith)
add_length (x ∷ a) [] e = absurd (omega arith)
add_length (x ∷ a) (y ∷ b) e = ap suc (add_length a b (suc_inj e))

pub scale_length : (k : ℤ) (a : List ℤ) → length (scale_list k a) ≡ length a
unfolding scale_list
scale_length k [] = refl
scale_length k (x ∷ a) = ap suc (scale_length k a)

pub sub_length : (a b : List ℤ) → length a ≡ length b → length (sub_list a b) ≡ length a
sub_length a b e = add_length a (scale_list (negsuc 0) b) (e ∙ sym (scale_length (negsuc 0) b))

pub clip_length : (k : ℤ) (a : List ℤ) → length (clip_list k a) ≡ length a
clip_length k a = length-map (scale_list k a) clipped ∙ scale_length k a

pub quot_length : (g : ℕ) (a : List ℤ) → length (quot_list g a) ≡ length a
unfolding quot_list
quot_length g [] = refl
quot_length g (x ∷ a) = ap suc (quot_length g a)

-- ---- each number

pub add_at : (a b : List ℤ) → length a ≡ length b → (k : ℕ) → slice_index_or (add_list a b) k (pos 0) ≡ slice_index_or a k (pos 0) +ℤ slice_index_or b k (pos 0)
unfolding add_list
add_at [] [] e k = refl
add_at [] (y ∷ b) e k = absurd (omega arith)
add_at (x ∷ a) [] e k = absurd (omega arith)
add_at (x ∷ a) (y ∷ b) e zero = refl
add_at (x ∷ a) (y ∷ b) e (suc k) = add_at a b (suc_inj e) k

pub scale_at : (z : ℤ) (a : List ℤ) (k : ℕ) → k < length a → slice_index_or (scale_list z a) k (pos 0) ≡ z *ℤ slice_index_or a k (pos 0)
unfolding scale_list
scale_at z [] k h = absurd (not-suc-le-zero h)
scale_at z (x ∷ a) zero h = refl
scale_at z (x ∷ a) (suc k) h = scale_at z a k (le_of_suc-le-suc h)

pub minus : (a b : ℤ) → a -ℤ b ≡ a +ℤ (negsuc 0 *ℤ b)
minus a b = ap (λ (z : ℤ). a +ℤ z) (sym (minus_one b))

pub sub_at : (a b : List ℤ) → length a ≡ length b → (k : ℕ) → k < length a → slice_index_or (sub_list a b) k (pos 0) ≡ slice_index_or a k (pos 0) -ℤ slice_index_or b k (pos 0)
sub_at a b e k h =
    add_at a (scale_list (negsuc 0) b) (e ∙ sym (scale_length (negsuc 0) b)) k
    ∙ (ap (λ (z : ℤ). slice_index_or a k (pos 0) +ℤ z) (scale_at (negsuc 0) b k (omega arith)) ∙ sym (minus (slice_index_or a k (pos 0)) (slice_index_or b k (pos 0))))

pub clip_at : (z : ℤ) (a : List ℤ) (k : ℕ) → k < length a → slice_index_or (clip_list z a) k (pos 0) ≡ clipped (z *ℤ slice_index_or a k (pos 0))
unfolding scale_list
clip_at z [] k h = absurd (not-suc-le-zero h)
clip_at z (x ∷ a) zero h = refl
clip_at z (x ∷ a) (suc k) h = clip_at z a k (le_of_suc-le-suc h)

pub quot_at : (g : ℕ) (a : List ℤ) (k : ℕ) → k < length a → slice_index_or (quot_list g a) k (pos 0) ≡ int_div (slice_index_or a k (pos 0)) (pos g)
unfolding quot_list
quot_at g [] k h = absurd (not-suc-le-zero h)
quot_at g (x ∷ a) zero h = refl
quot_at g (x ∷ a) (suc k) h = quot_at g a k (le_of_suc-le-suc h)

-- ---- parts

pub add_take : (n : ℕ) (a b : List ℤ) → length a ≡ length b → take n (add_list a b) ≡ add_list (take n a) (take n b)
unfolding add_list
add_take zero a b e = refl
add_take (suc n) [] [] e = refl
add_take (suc n) [] (y ∷ b) e = absurd (omega arith)
add_take (suc n) (x ∷ a) [] e = absurd (omega arith)
add_take (suc n) (x ∷ a) (y ∷ b) e = ap (λ (r : List ℤ). (x +ℤ y) ∷ r) (add_take n a b (suc_inj e))

pub scale_take : (n : ℕ) (k : ℤ) (a : List ℤ) → take n (scale_list k a) ≡ scale_list k (take n a)
unfolding scale_list
scale_take zero k a = refl
scale_take (suc n) k [] = refl
scale_take (suc n) k (x ∷ a) = ap (λ (r : List ℤ). (k *ℤ x) ∷ r) (scale_take n k a)

quot_one_of : (z : ℤ) → int_div z (pos 1) ≡ z
quot_one_of (pos n) = ap pos (div-one n)
quot_one_of (negsuc n) = ap (λ (k : ℕ). neg_ℤ (pos k)) (div-one (suc n))

-- dividing by 1 changes nothing
pub quot_one : (a : List ℤ) → quot_list 1 a ≡ a
unfolding quot_list
quot_one [] = refl
quot_one (z ∷ a) = ap₂ (λ (x : ℤ) (r : List ℤ). x ∷ r) (quot_one_of z) (quot_one a)

pub quot_take : (n g : ℕ) (a : List ℤ) → take n (quot_list g a) ≡ quot_list g (take n a)
unfolding quot_list
quot_take zero g a = refl
quot_take (suc n) g [] = refl
quot_take (suc n) g (x ∷ a) = ap (λ (r : List ℤ). int_div x (pos g) ∷ r) (quot_take n g a)

-- what is left of a list from index i on: the number there, and the rest
pub rest : (l : List ℤ) (i : ℕ) → i < length l → drop i l ≡ slice_index_or l i (pos 0) ∷ drop (i + 1) l
rest l i h = drop-cons l i (pos 0) h ∙ ap (λ (k : ℕ). slice_index_or l i (pos 0) ∷ drop k l) (sym (add-one i))

-- the last two numbers apart: of a linear, the constant and the denominator
pub dot_last : (k : ℕ) (a b : List ℤ) → length a ≡ suc k → length b ≡ suc k → dot_list a b ≡ dot_list (take k a) (take k b) +ℤ slice_index_or a k (pos 0) *ℤ slice_index_or b k (pos 0)
unfolding dot_list
dot_last k [] b e f = absurd (omega arith)
dot_last k (x ∷ a) [] e f = absurd (omega arith)
dot_last zero (x ∷ []) (y ∷ b) e f = +ℤ_comm (x *ℤ y) (pos 0)
dot_last zero (x ∷ z ∷ a) (y ∷ b) e f = absurd (omega arith)
dot_last (suc k) (x ∷ a) (y ∷ b) e f =
    ap (λ (z : ℤ). (x *ℤ y) +ℤ z) (dot_last k a b (suc_inj e) (suc_inj f))
    ∙ sym (+ℤ_assoc (x *ℤ y) (dot_list (take k a) (take k b)) (slice_index_or a k (pos 0) *ℤ slice_index_or b k (pos 0)))

-- ---- limits

pub small_quot : (z : ℤ) (g : ℕ) → Small z → Small (int_div z (pos g))
small_quot z g s = record { small = omega (arith, s.small, abs_quot z g) }

zero_small : Small (pos 0)
zero_small = record { small = omega arith }

-- a quotient stays within the limits
pub quot_smalls : (g : ℕ) (l : List ℤ) → Smalls l → Smalls (quot_list g l)
unfolding quot_list
quot_smalls g l s = record { long = quot_length g l ∙ s.long; each = go l s.each }
  where
    go : (l : List ℤ) → ((k : ℕ) → Small (slice_index_or l k (pos 0))) → (k : ℕ) → Small (slice_index_or (quot_list g l) k (pos 0))
    go [] f k = zero_small
    go (x ∷ l) f zero = small_quot x g (f zero)
    go (x ∷ l) f (suc k) = go l (λ j. f (suc j)) k

both_true : (a b : Bool) → (a && b) ≡ true → (a ≡ true) × (b ≡ true)
both_true true b e = (refl, e)
both_true false b e = absurd (let z : ◌≡◌ {A = ℕ} 0 1 = cc in omega arith)

-- all judged fine lie within the limits
pub smalls_of : (l : List ℤ) → length l ≡ numbers → smalls l ≡ true → Smalls l
unfolding smalls small
smalls_of l n e = record { long = n; each = go l e }
  where
    go : (l : List ℤ) → smalls l ≡ true → (k : ℕ) → Small (slice_index_or l k (pos 0))
    go [] e k = zero_small
    go (x ∷ l) e zero = record { small = leb-true (unsigned_abs x) limit (both_true _ _ e).0 }
    go (x ∷ l) e (suc k) = go l (both_true (small x) (smalls l) e).1 k

-- ---- equality

no : {A : Type 0} → false ≡ true → A
no e = absurd (let z : ◌≡◌ {A = ℕ} 0 1 = cc in omega arith)

pub eq_ℤ_true : (x y : ℤ) → eq_ℤ x y ≡ true → x ≡ y
unfolding eq_ℤ
eq_ℤ_true (pos a) (pos b) e = ap pos (eqb-true a b e)
eq_ℤ_true (pos a) (negsuc b) e = no e
eq_ℤ_true (negsuc a) (pos b) e = no e
eq_ℤ_true (negsuc a) (negsuc b) e = ap negsuc (eqb-true a b e)

pub eq_ℤ_refl : (x : ℤ) → eq_ℤ x x ≡ true
unfolding eq_ℤ
eq_ℤ_refl (pos a) = eq-eqb a a refl
eq_ℤ_refl (negsuc a) = eq-eqb a a refl

pub eq_list_true : (a b : List ℤ) → eq_list a b ≡ true → a ≡ b
unfolding eq_list
eq_list_true [] [] e = refl
eq_list_true [] (y ∷ b) e = no e
eq_list_true (x ∷ a) [] e = no e
eq_list_true (x ∷ a) (y ∷ b) e = ap₂ ◌∷◌ (eq_ℤ_true x y (both_true (eq_ℤ x y) (eq_list a b) e).0) (eq_list_true a b (both_true (eq_ℤ x y) (eq_list a b) e).1)

pub eq_list_refl : (a : List ℤ) → eq_list a a ≡ true
unfolding eq_list
eq_list_refl [] = refl
eq_list_refl (x ∷ a) = ap₂ ◌&&◌ (eq_ℤ_refl x) (eq_list_refl a)
