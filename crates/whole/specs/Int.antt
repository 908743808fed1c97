-- Integers: differences of naturals, and the laws by `simp` into differences and `omega`.
use Rattle.std.specs.Prelude.{◌≡◌, ℕ, zero, suc, ◌+◌, ◌-◌, ◌*◌, ◌<◌, ◌≤◌, Bool, true, false, cond, not, T, ◌↔◌, ℤ, pos, negsuc, ◌+ℤ◌, ◌-ℤ◌, ◌*ℤ◌, neg_ℤ, ◌≤ℤ◌, int_le, nat_lt, refl}
use Rattle.std.proofs.Common.{ap, ◌∙◌, arith, ltb→lt, nltb→le, leb→le, le→leb, mul-le-mul_left}
use Rattle.std.proofs.Math.Dec.{nleb→lt}
use Rattle.std.proofs.Math.IntN.{sub_ℕ, neg_ℤ-+ℤ, neg_ℤ-neg_ℤ, +ℤ_assoc, +ℤ_comm, *ℤ_comm, +ℤ_idl, +ℤ_idr, zero-*ℤ, *ℤ-zero}
use lib.Signed
use lib.Signed.{≤ℤ_refl}

-- p − n, sealed
unfoldable pub dif : ℕ → ℕ → ℤ
dif p n = sub_ℕ p n

-- the two parts of an integer
abbrev pub up : ℤ → ℕ
up (pos n) = n
up (negsuc n) = 0

abbrev pub down : ℤ → ℕ
down (pos n) = 0
down (negsuc n) = suc n

cond_ind : (c : Bool) (x y : ℤ) (P : ℤ → Type 0) → (T c → P x) → (T (not c) → P y) → P (cond c x y)
cond_ind true x y P f g = f tt
cond_ind false x y P f g = g tt

-- what a difference is, by cases
dif_ind : (p n : ℕ) (Q : ℤ → Type 0) → ((k : ℕ) → p ≡ n + k → Q (pos k)) → ((k : ℕ) → n ≡ p + suc k → Q (negsuc k)) → Q (dif p n)
unfolding dif
dif_ind p n Q f g = cond_ind (nat_lt p n) (negsuc (n - suc p)) (pos (p - n)) Q
    (λ t. g (n - suc p) (low (ltb→lt p n t))) (λ t. f (p - n) (high (nltb→le p n t)))
  where
    low : p < n → n ≡ p + suc (n - suc p)
    low h = omega arith

    high : n ≤ p → p ≡ n + (p - n)
    high h = omega arith

pub atom : (z : ℤ) → dif (up z) (down z) ≡ z
atom (pos n) = dif_ind n 0 (λ z. z ≡ pos n) (λ k e. ap pos (omega arith)) (λ k e. absurd (omega arith))
atom (negsuc n) = dif_ind 0 (suc n) (λ z. z ≡ negsuc n) (λ k e. absurd (omega arith)) (λ k e. ap negsuc (omega arith))

dif_eq : (p n q m : ℕ) → p + m ≡ q + n → dif p n ≡ dif q m
dif_eq p n q m e = dif_ind p n (λ z. z ≡ dif q m)
    (λ k a. dif_ind q m (λ z. pos k ≡ z) (λ l b. ap pos (omega arith)) (λ l b. absurd (omega arith)))
    (λ k a. dif_ind q m (λ z. negsuc k ≡ z) (λ l b. absurd (omega arith)) (λ l b. ap negsuc (omega arith)))

is_pos : (p n k : ℕ) → p ≡ n + k → pos k ≡ dif p n
is_pos p n k e = dif_ind p n (λ z. pos k ≡ z) (λ l b. ap pos (omega arith)) (λ l b. absurd (omega arith))

is_neg : (p n k : ℕ) → n ≡ p + suc k → negsuc k ≡ dif p n
is_neg p n k e = dif_ind p n (λ z. negsuc k ≡ z) (λ l b. absurd (omega arith)) (λ l b. ap negsuc (omega arith))

pub dif_pos : (k : ℕ) → pos k ≡ dif k 0
dif_pos k = is_pos k 0 k (omega arith)

pub dif_negsuc : (k : ℕ) → negsuc k ≡ dif 0 (suc k)
dif_negsuc k = is_neg 0 (suc k) k (omega arith)

pub dif+ : (p n q m : ℕ) → dif p n +ℤ dif q m ≡ dif (p + q) (n + m)
unfolding dif
dif+ p n q m = dif_ind p n (λ z. z +ℤ dif q m ≡ dif (p + q) (n + m))
    (λ k a. dif_ind q m (λ z. pos k +ℤ z ≡ dif (p + q) (n + m))
    (λ l b. is_pos (p + q) (n + m) (k + l) (omega arith))
    (λ l b. dif_eq k (suc l) (p + q) (n + m) (omega arith)))
    (λ k a. dif_ind q m (λ z. negsuc k +ℤ z ≡ dif (p + q) (n + m))
    (λ l b. dif_eq l (suc k) (p + q) (n + m) (omega arith))
    (λ l b. is_neg (p + q) (n + m) (suc (k + l)) (omega arith)))

pub neg_pos : (k : ℕ) → neg_ℤ (pos k) ≡ dif 0 k
neg_pos zero = dif_pos 0
neg_pos (suc k) = dif_negsuc k

pub dif_neg : (p n : ℕ) → neg_ℤ (dif p n) ≡ dif n p
dif_neg p n = dif_ind p n (λ z. neg_ℤ z ≡ dif n p)
    (λ k a. neg_pos k ∙ dif_eq 0 k n p (omega arith))
    (λ k a. dif_pos (suc k) ∙ dif_eq (suc k) 0 n p (omega arith))

pub dif* : (p n q m : ℕ) → dif p n *ℤ dif q m ≡ dif (p * q + n * m) (p * m + n * q)
dif* p n q m = dif_ind p n (λ z. z *ℤ dif q m ≡ dif (p * q + n * m) (p * m + n * q))
    (λ k a. dif_ind q m (λ z. pos k *ℤ z ≡ dif (p * q + n * m) (p * m + n * q))
    (λ l b. is_pos _ _ (k * l) (rw (a, b) (omega arith)))
    (λ l b. neg_pos (k * suc l) ∙ dif_eq _ _ _ _ (rw (a, b) (omega arith))))
    (λ k a. dif_ind q m (λ z. negsuc k *ℤ z ≡ dif (p * q + n * m) (p * m + n * q))
    (λ l b. neg_pos (suc k * l) ∙ dif_eq _ _ _ _ (rw (a, b) (omega arith)))
    (λ l b. is_pos _ _ (suc k * suc l) (rw (a, b) (omega arith))))

pub dif≤ : (p n q m : ℕ) → (dif p n ≤ℤ dif q m) ↔ (p + m ≤ q + n)
dif≤ p n q m = (
  dif_ind p n (λ z. z ≤ℤ dif q m → p + m ≤ q + n)
      (λ k a. dif_ind q m (λ z. pos k ≤ℤ z → p + m ≤ q + n)
      (λ l b h. le_case k l (leb→le k l h.le) a b)
      (λ l b h. absurd h.le))
      (λ k a. dif_ind q m (λ z. negsuc k ≤ℤ z → p + m ≤ q + n)
      (λ l b h. omega arith)
      (λ l b h. le_case' k l (leb→le l k h.le) a b)),
  dif_ind p n (λ z. p + m ≤ q + n → z ≤ℤ dif q m)
      (λ k a. dif_ind q m (λ z. p + m ≤ q + n → pos k ≤ℤ z)
      (λ l b h. record { le = le→leb k l (omega arith) })
      (λ l b h. absurd (omega arith)))
      (λ k a. dif_ind q m (λ z. p + m ≤ q + n → negsuc k ≤ℤ z)
      (λ l b h. record { le = tt })
      (λ l b h. record { le = le→leb l k (omega arith) })),
)
  where
    le_case : (k l : ℕ) → k ≤ l → p ≡ n + k → q ≡ m + l → p + m ≤ q + n
    le_case k l h a b = omega arith

    le_case' : (k l : ℕ) → l ≤ k → n ≡ p + suc k → m ≡ q + suc l → p + m ≤ q + n
    le_case' k l h a b = omega arith

ev : ℤ → ℕ
ev (pos n) = n + n
ev (negsuc n) = n + n + 1

pub dif≡ : (p n q m : ℕ) → (dif p n ≡ dif q m) ↔ (p + m ≡ q + n)
dif≡ p n q m = (λ e. omega (arith, (dif≤ p n q m).0 (rw e (self _)), (dif≤ q m p n).0 (rw e (self _))), dif_eq p n q m)
  where
    self : (z : ℤ) → z ≤ℤ z
    self z = lib.Signed.≤ℤ_refl z

pub sub_neg : (a b : ℤ) → a -ℤ b ≡ a +ℤ neg_ℤ b
sub_neg a b = refl

pub ruleset diff = (sub_neg, dif+, dif_neg, dif*, dif≤, dif≡, neg_pos, dif_pos)

pub distrib : (a b c : ℤ) → a *ℤ (b +ℤ c) ≡ a *ℤ b +ℤ a *ℤ c
distrib a b c = rw (← atom a, ← atom b, ← atom c) (simp diff (omega arith))

-- a fact of two integers, as one of their parts: a rule for `omega`
pub le_in : (a b : ℤ) → a ≤ℤ b → up a + down b ≤ up b + down a
le_in a b h = (dif≤ _ _ _ _).0 (rw (atom a, atom b) h)

pub eq_in : (a b : ℤ) → a ≡ b → up a + down b ≡ up b + down a
eq_in a b h = (dif≡ _ _ _ _).0 (rw (atom a, atom b) h)

pub add_mono : (a b c d : ℤ) → a ≤ℤ b → c ≤ℤ d → (a +ℤ c) ≤ℤ (b +ℤ d)
add_mono a b c d h k = rw (← atom a, ← atom b, ← atom c, ← atom d) (simp diff (omega (arith, le_in)))

pub mul_assoc : (a b c : ℤ) → a *ℤ b *ℤ c ≡ a *ℤ (b *ℤ c)
mul_assoc a b c = rw (← atom a, ← atom b, ← atom c) (simp diff (omega arith))

pub mul_mono : (w : ℕ) (a b : ℤ) → a ≤ℤ b → (pos w *ℤ a) ≤ℤ (pos w *ℤ b)
mul_mono w a b h = rw (← atom a, ← atom b) (simp diff (omega (arith, mul-le-mul_left w (le_in a b h))))

pub distrib_r : (a b c : ℤ) → (b +ℤ c) *ℤ a ≡ b *ℤ a +ℤ c *ℤ a
distrib_r a b c = rw (← atom a, ← atom b, ← atom c) (simp diff (omega arith))

pub add_left_comm : (a b c : ℤ) → a +ℤ (b +ℤ c) ≡ b +ℤ (a +ℤ c)
add_left_comm a b c = rw (← atom a, ← atom b, ← atom c) (simp diff (omega arith))

pub mul_left_comm : (a b c : ℤ) → a *ℤ (b *ℤ c) ≡ b *ℤ (a *ℤ c)
mul_left_comm a b c = rw (← atom a, ← atom b, ← atom c) (simp diff (omega arith))

pub neg_mul : (a b : ℤ) → neg_ℤ a *ℤ b ≡ neg_ℤ (a *ℤ b)
neg_mul a b = rw (← atom a, ← atom b) (simp diff (omega arith))

pub mul_neg : (a b : ℤ) → a *ℤ neg_ℤ b ≡ neg_ℤ (a *ℤ b)
mul_neg a b = rw (← atom a, ← atom b) (simp diff (omega arith))

pub ruleset ring = (sub_neg, neg_ℤ-+ℤ, neg_ℤ-neg_ℤ, neg_mul, mul_neg, distrib, distrib_r, +ℤ_assoc, +ℤ_comm, add_left_comm, mul_assoc, *ℤ_comm, mul_left_comm, +ℤ_idl, +ℤ_idr, zero-*ℤ, *ℤ-zero)

-- ---- order

pub ≤_trans : (a b c : ℤ) → a ≤ℤ b → b ≤ℤ c → a ≤ℤ c
≤_trans a b c h k = rw (← atom a, ← atom c) (simp diff (omega (arith, le_in)))

pub ≤-antisym : (a b : ℤ) → a ≤ℤ b → b ≤ℤ a → a ≡ b
≤-antisym a b h k = rw (← atom a, ← atom b) (simp diff (omega (arith, le_in)))

pub ≤-of_eq : (a b : ℤ) → a ≡ b → a ≤ℤ b
≤-of_eq a b h = rw h (≤ℤ_refl b)

pub not_le : (a b : ℤ) → T (not (int_le a b)) → b ≤ℤ a
not_le (pos a) (pos b) t = record { le = le→leb b a (omega (arith, nleb→lt a b t)) }
not_le (pos a) (negsuc b) t = record { le = tt }
not_le (negsuc a) (pos b) t = absurd t
not_le (negsuc a) (negsuc b) t = record { le = le→leb a b (omega (arith, nleb→lt b a t)) }

pub add_cancel : (a b c : ℤ) → a +ℤ b ≡ a +ℤ c → b ≡ c
add_cancel a b c e = rw (← atom b, ← atom c) (simp diff (omega (arith, simp diff at (rw (← atom a, ← atom b, ← atom c) at e))))

pub minus_one : (a : ℤ) → negsuc 0 *ℤ a ≡ neg_ℤ a
minus_one a = rw (← atom a) (simp (diff, dif_negsuc) (omega arith))
