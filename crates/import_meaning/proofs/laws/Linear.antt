-- The linear of a sum has the sum's value at every state.
use Rattle.std.specs.Prelude.{◌≡◌, ℤ, negsuc, ◌+ℤ◌, ◌*ℤ◌, neg_ℤ, get_or}
use Rattle.std.proofs.Math.Path.{refl, ap}
use Rattle.std.proofs.Common.{ap₂, ◌∙◌, arith}
use mathlib.Core.List.{List, [], ◌∷◌}
use Prim.Native.Nat.{ℕ, zero, suc}
use Rattle.std.proofs.Math.IntN.{pos, *ℤ_comm}
use Rattle.whole.specs.Int.{atom, diff, ring, minus_one}
use Rattle.theory.specs.Diagram.{Linear, no_coeffs, zeros, ◌⊞◌, ◌⊟◌, ◌⊠◌}
use Rattle.theory.specs.Meaning.{Env, dot, value}
use Rattle.theory.proofs.laws.Values.{value_add, value_sub, value_scale, value_constant}
use Rattle.import_grammar.specs.Grammar.{Index, i1, i2, i3, i4, i5, i6, i7, i8, Sign, adds, takes, ConstFactor, number, kbracket, ConstTerm, kfactor, ktimes}
use Rattle.import_grammar.specs.Grammar.{ConstSum, kterm, kneg, kplus, VaryFactor, level, vbracket, VaryTerm, vfactor, vscaled, vby, VarySum, vterm, vneg}
use Rattle.import_grammar.specs.Grammar.{plus_kv, plus_vk, plus_vv, constant, varying}
use Rattle.import_numbers.specs.Numbers.{digits_value, constant_linear, level_coeffs, level_linear, joined, kfactor_linear, kterm_linear, ksum_linear, vfactor_linear, vterm_linear, vsum_linear, linear_of}
use Rattle.import_meaning.specs.Sums.{by_sign, kfactor_value, kterm_value, ksum_value, level_num, vfactor_value, vterm_value, vsum_value, sum_value, LinearMeans}

-- ---- constants of linears

minus_const : (p : Linear) → (negsuc 0 ⊠ p).const ≡ neg_ℤ p.const
unfolding ◌⊠◌
minus_const p = minus_one p.const

joined_const : (g : Sign) (p q : Linear) → (joined g p q).const ≡ by_sign g p.const q.const
unfolding ◌⊞◌ ◌⊟◌
joined_const adds p q = refl
joined_const takes p q = ap (λ (z : ℤ). p.const +ℤ z) (minus_const q)

mutual
  unfolding kfactor_linear kfactor_value ◌⊠◌

  kfactor_const : {n : ℕ} (x : ConstFactor n) → (kfactor_linear x).const ≡ kfactor_value x
  kfactor_const (number p ds) = refl
  kfactor_const (kbracket p s q) = ksum_const s

  kterm_const : {n : ℕ} (t : ConstTerm n) → (kterm_linear t).const ≡ kterm_value t
  kterm_const (kfactor x) = kfactor_const x
  kterm_const (ktimes t p x) = ap₂ ◌*ℤ◌ (kterm_const t) (kfactor_const x)

  ksum_const : {n : ℕ} (s : ConstSum n) → (ksum_linear s).const ≡ ksum_value s
  ksum_const (kterm t) = kterm_const t
  ksum_const (kneg p t) = minus_const (kterm_linear t) ∙ ap neg_ℤ (kterm_const t)
  ksum_const (kplus s p g t) = joined_const g (ksum_linear s) (kterm_linear t) ∙ ap₂ (by_sign g) (ksum_const s) (kterm_const t)

-- ---- values

module _ (e : Env) where
  abbrev D : ℤ
  D = pos e.den

  minus_value : (p : Linear) → value e (negsuc 0 ⊠ p) ≡ neg_ℤ (value e p)
  minus_value p = value_scale e (negsuc 0) p ∙ minus_one (value e p)

  joined_value : (g : Sign) (p q : Linear) → value e (joined g p q) ≡ by_sign g (value e p) (value e q)
  joined_value adds p q = value_add e p q
  joined_value takes p q = value_sub e p q

  times_den : (a b d : ℤ) → a *ℤ (b *ℤ d) ≡ (a *ℤ b) *ℤ d
  times_den a b d = simp ring

  neg_den : (a d : ℤ) → neg_ℤ (a *ℤ d) ≡ neg_ℤ a *ℤ d
  neg_den a d = simp ring

  sign_den : (g : Sign) (a b d : ℤ) → by_sign g (a *ℤ d) (b *ℤ d) ≡ by_sign g a b *ℤ d
  sign_den adds a b d = simp ring
  sign_den takes a b d = simp ring

  mutual
    unfolding kfactor_linear kfactor_value no_coeffs zeros

    kfactor_means : {n : ℕ} (x : ConstFactor n) → value e (kfactor_linear x) ≡ kfactor_value x *ℤ D
    kfactor_means (number p ds) = value_constant e (constant_linear (pos (digits_value ds))) tt
    kfactor_means (kbracket p s q) = ksum_means s

    kterm_means : {n : ℕ} (t : ConstTerm n) → value e (kterm_linear t) ≡ kterm_value t *ℤ D
    kterm_means (kfactor x) = kfactor_means x
    kterm_means (ktimes t p x) = value_scale e (kterm_linear t).const (kfactor_linear x) ∙ ap₂ ◌*ℤ◌ (kterm_const t) (kfactor_means x) ∙ times_den (kterm_value t) (kfactor_value x) D

    ksum_means : {n : ℕ} (s : ConstSum n) → value e (ksum_linear s) ≡ ksum_value s *ℤ D
    ksum_means (kterm t) = kterm_means t
    ksum_means (kneg p t) = minus_value (kterm_linear t) ∙ ap neg_ℤ (kterm_means t) ∙ neg_den (kterm_value t) D
    ksum_means (kplus s p g t) = joined_value g (ksum_linear s) (kterm_linear t) ∙ ap₂ (by_sign g) (ksum_means s) (kterm_means t) ∙ sign_den g (ksum_value s) (kterm_value t) D

  -- ---- a level

  no_dot : (n : ℕ) (x : List ℤ) → dot (no_coeffs n) x ≡ pos 0
  unfolding dot no_coeffs
  no_dot zero x = refl
  no_dot (suc n) [] = refl
  no_dot (suc n) (y ∷ x) = ap (λ (z : ℤ). pos 0 *ℤ y +ℤ z) (no_dot n x) ∙ nothing y
    where
      nothing : (y : ℤ) → pos 0 *ℤ y +ℤ pos 0 ≡ pos 0
      nothing y = simp ring

  here : (n : ℕ) (x : List ℤ) → dot (pos 1 ∷ no_coeffs n) x ≡ get_or x 0 (pos 0)
  unfolding dot
  here n [] = refl
  here n (y ∷ x) = ap (λ (z : ℤ). pos 1 *ℤ y +ℤ z) (no_dot n x) ∙ one y
    where
      one : (y : ℤ) → pos 1 *ℤ y +ℤ pos 0 ≡ y
      one y = rw (← atom y) (simp diff (omega arith))

  further : (c : List ℤ) (k : ℕ) → ((x : List ℤ) → dot c x ≡ get_or x k (pos 0)) → (x : List ℤ) → dot (pos 0 ∷ c) x ≡ get_or x (suc k) (pos 0)
  unfolding dot
  further c k h [] = refl
  further c k h (y ∷ x) = ap (λ (z : ℤ). pos 0 *ℤ y +ℤ z) (h x) ∙ less y (get_or x k (pos 0))
    where
      less : (y z : ℤ) → pos 0 *ℤ y +ℤ z ≡ z
      less y z = simp ring

  level_dot : (i : Index) → dot (level_coeffs i) e.nums ≡ level_num e i
  unfolding no_coeffs level_num
  level_dot i1 = here 7 e.nums
  level_dot i2 = further _ 0 (here 6) e.nums
  level_dot i3 = further _ 1 (further _ 0 (here 5)) e.nums
  level_dot i4 = further _ 2 (further _ 1 (further _ 0 (here 4))) e.nums
  level_dot i5 = further _ 3 (further _ 2 (further _ 1 (further _ 0 (here 3)))) e.nums
  level_dot i6 = further _ 4 (further _ 3 (further _ 2 (further _ 1 (further _ 0 (here 2))))) e.nums
  level_dot i7 = further _ 5 (further _ 4 (further _ 3 (further _ 2 (further _ 1 (further _ 0 (here 1)))))) e.nums
  level_dot i8 = further _ 6 (further _ 5 (further _ 4 (further _ 3 (further _ 2 (further _ 1 (further _ 0 (here 0))))))) e.nums

  level_means : (i : Index) → value e (level_linear i) ≡ level_num e i
  unfolding value
  level_means i = ap (λ (z : ℤ). z +ℤ pos 0 *ℤ D) (level_dot i) ∙ alone (level_num e i) D
    where
      alone : (z d : ℤ) → z +ℤ pos 0 *ℤ d ≡ z
      alone z d = simp ring

  mutual
    unfolding vfactor_linear vfactor_value

    vfactor_means : {n : ℕ} (x : VaryFactor n) → value e (vfactor_linear x) ≡ vfactor_value e x
    vfactor_means (level p i) = level_means i
    vfactor_means (vbracket p s q) = vsum_means s

    vterm_means : {n : ℕ} (t : VaryTerm n) → value e (vterm_linear t) ≡ vterm_value e t
    vterm_means (vfactor x) = vfactor_means x
    vterm_means (vscaled t p x) = value_scale e (kterm_linear t).const (vfactor_linear x) ∙ ap₂ ◌*ℤ◌ (kterm_const t) (vfactor_means x)
    vterm_means (vby t p x) =
        value_scale e (kfactor_linear x).const (vterm_linear t) ∙ ap₂ ◌*ℤ◌ (kfactor_const x) (vterm_means t) ∙ *ℤ_comm (kfactor_value x) (vterm_value e t)

    vsum_means : {n : ℕ} (s : VarySum n) → value e (vsum_linear s) ≡ vsum_value e s
    vsum_means (vterm t) = vterm_means t
    vsum_means (vneg p t) = minus_value (vterm_linear t) ∙ ap neg_ℤ (vterm_means t)
    vsum_means (plus_kv s p g t) = joined_value g (ksum_linear s) (vterm_linear t) ∙ ap₂ (by_sign g) (ksum_means s) (vterm_means t)
    vsum_means (plus_vk s p g t) = joined_value g (vsum_linear s) (kterm_linear t) ∙ ap₂ (by_sign g) (vsum_means s) (kterm_means t)
    vsum_means (plus_vv s p g t) = joined_value g (vsum_linear s) (vterm_linear t) ∙ ap₂ (by_sign g) (vsum_means s) (vterm_means t)

pub linear_means : LinearMeans
unfolding linear_of sum_value
linear_means e n (constant s) = ksum_means e s
linear_means e n (varying s) = vsum_means e s
