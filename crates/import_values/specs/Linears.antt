-- The nine numbers of linears worked as lists, and lists of numbers judged.
use Rattle.std.specs.Prelude.{◌≡◌, refl, Bool, true, false, ◌&&◌, List, [], ◌∷◌, ◌++◌, map, ℕ, suc, leb, ℤ, pos, negsuc, ◌+ℤ◌, ◌*ℤ◌, length}
use Rattle.std.proofs.Common.{sym, ap, ap₂, ◌∙◌, arith, leb-true, le-leb}
use Rattle.std.proofs.Math.IntN.{+ℤ_idl, *ℤ-zero, *ℤ_comm}
use Rattle.whole.specs.Cases.{if}
use Rattle.whole.specs.Int.{atom, diff}
use Rattle.whole.specs.Within.{limit, small}
use Rattle.whole.specs.Linears.{numbers, add_list, sub_list, scale_list, clip_list, clipped, eq_list}
use Rattle.whole.specs.LinearsLaws.{scale_length, eq_list_true, eq_list_refl}
use Rattle.theory.specs.Diagram.{Linear, no_coeffs, ◌⊞◌, ◌⊟◌, ◌⊠◌}
use Rattle.theory.specs.Plain.{in_32_bits}
use Rattle.import_numbers.specs.Numbers.{nine, all_within}
use Rattle.import_linears.specs.Nine.{constant9, last, flat, multiplied}

-- ---- sums and products of nine numbers

add_end : (a b : List ℤ) (c d : ℤ) → length a ≡ length b → add_list (a ++ (c ∷ [])) (b ++ (d ∷ [])) ≡ add_list a b ++ ((c +ℤ d) ∷ [])
unfolding add_list
add_end [] [] c d h = refl
add_end [] (y ∷ b) c d h = absurd (omega arith)
add_end (x ∷ a) [] c d h = absurd (omega arith)
add_end (x ∷ a) (y ∷ b) c d h = ap (λ (l : List ℤ). (x +ℤ y) ∷ l) (add_end a b c d (omega arith))

scale_end : (k : ℤ) (a : List ℤ) (c : ℤ) → scale_list k (a ++ (c ∷ [])) ≡ scale_list k a ++ ((k *ℤ c) ∷ [])
unfolding scale_list
scale_end k [] c = refl
scale_end k (x ∷ a) c = ap (λ (l : List ℤ). (k *ℤ x) ∷ l) (scale_end k a c)

pub nine_scale : (k : ℤ) (p : Linear) → scale_list k (nine p) ≡ nine (k ⊠ p)
unfolding ◌⊠◌
nine_scale k p = scale_end k p.coeffs p.const

pub nine_add : (p q : Linear) → length p.coeffs ≡ length q.coeffs → add_list (nine p) (nine q) ≡ nine (p ⊞ q)
unfolding ◌⊞◌
nine_add p q h = add_end p.coeffs q.coeffs p.const q.const h

pub nine_sub : (p q : Linear) → length p.coeffs ≡ length q.coeffs → sub_list (nine p) (nine q) ≡ nine (p ⊟ q)
unfolding ◌⊟◌ ◌⊠◌
nine_sub p q h = ap (λ (l : List ℤ). add_list (nine p) l) (nine_scale (negsuc 0) q) ∙ nine_add p (negsuc 0 ⊠ q) (h ∙ sym (scale_length (negsuc 0) q.coeffs))

add_none : (l : List ℤ) → add_list (no_coeffs (length l)) l ≡ l
unfolding add_list no_coeffs
add_none [] = refl
add_none (x ∷ l) = ap₂ (λ (y : ℤ) (r : List ℤ). y ∷ r) (+ℤ_idl x) (add_none l)

pub zero-add : (l : List ℤ) → length l ≡ numbers → add_list (constant9 (pos 0)) l ≡ l
unfolding no_coeffs
zero-add l h = ap (λ (n : ℕ). add_list (no_coeffs n) l) (sym h) ∙ add_none l

pub zero_sub : (l : List ℤ) → length l ≡ numbers → sub_list (constant9 (pos 0)) l ≡ scale_list (negsuc 0) l
zero_sub l h = zero-add (scale_list (negsuc 0) l) (scale_length (negsuc 0) l ∙ h)

one_times : (a : ℤ) → pos 1 *ℤ a ≡ a
one_times a = rw (← atom a) (simp diff (omega arith))

pub scale_one : (l : List ℤ) → scale_list (pos 1) l ≡ l
unfolding scale_list
scale_one [] = refl
scale_one (x ∷ l) = ap₂ (λ (y : ℤ) (r : List ℤ). y ∷ r) (one_times x) (scale_one l)

-- ---- products, one factor a constant

pub by_left : (a : ℤ) (q : List ℤ) → multiplied (constant9 a) q ≡ clip_list a q
unfolding multiplied flat
by_left a q = ap (λ (b : Bool). if b (clip_list a q) (clip_list (last q) (constant9 a))) (eq_list_refl (constant9 a))

swapped : (a b : ℤ) → scale_list a (constant9 b) ≡ scale_list b (constant9 a)
unfolding scale_list
swapped a b = simp (*ℤ-zero) (ap (λ (z : ℤ). constant9 z) (*ℤ_comm a b))

pub by_right : (p : List ℤ) (b : ℤ) → multiplied p (constant9 b) ≡ clip_list b p
unfolding multiplied flat
by_right p b = go (eq_list p (constant9 (last p))) refl
  where
    go : (t : Bool) → eq_list p (constant9 (last p)) ≡ t → if t (clip_list (last p) (constant9 b)) (clip_list b p) ≡ clip_list b p
    go true e = ap (λ (l : List ℤ). map clipped l) (swapped (last p) b ∙ ap (λ (l : List ℤ). scale_list b l) (sym (eq_list_true p (constant9 (last p)) e)))
    go false e = refl

-- ---- judged

pub and_true : (a b : Bool) → (a && b) ≡ true → (a ≡ true) × (b ≡ true)
and_true true b e = (refl, e)
and_true false b e = absurd (let w : ◌≡◌ {A = ℕ} 0 1 = cc in omega arith)

in_small : (z : ℤ) → in_32_bits z ≡ true → small z ≡ true
unfolding in_32_bits small
in_small (pos n) e = le-leb n limit (let h = leb-true n 2147483647 e in omega arith)
in_small (negsuc n) e = le-leb (suc n) limit (let h = leb-true n 2147483647 (and_true (leb n 2147483647) true e).0 in omega arith)

clash : {A : Type 0} → true ≡ false → A
clash e = absurd (let w : ◌≡◌ {A = ℕ} 0 1 = cc in omega arith)

clipped_in : (z : ℤ) → in_32_bits (clipped z) ≡ in_32_bits z
unfolding clipped in_32_bits
clipped_in z = go (small z) refl (in_32_bits z) refl
  where
    go : (b : Bool) → small z ≡ b → (c : Bool) → in_32_bits z ≡ c → in_32_bits (if b z (pos (suc limit))) ≡ in_32_bits z
    go true e c f = refl
    go false e false f = sym f
    go false e true f = clash (sym (in_small z f) ∙ e)

clipped_is : (z : ℤ) → in_32_bits z ≡ true → clipped z ≡ z
unfolding clipped
clipped_is z e = ap (λ (b : Bool). if b z (pos (suc limit))) (in_small z e)

all_clipped : (l : List ℤ) → all_within (map clipped l) ≡ all_within l
unfolding all_within
all_clipped [] = refl
all_clipped (z ∷ l) = ap₂ ◌&&◌ (clipped_in z) (all_clipped l)

all_is : (l : List ℤ) → all_within l ≡ true → map clipped l ≡ l
unfolding all_within
all_is [] e = refl
all_is (z ∷ l) e = let p = and_true (in_32_bits z) (all_within l) e in ap₂ (λ (y : ℤ) (r : List ℤ). y ∷ r) (clipped_is z p.0) (all_is l p.1)

-- a product that is judged
pub clip_judged : {A : Type 0} (l : List ℤ) (F : List ℤ → A) (z : A) → if (all_within (map clipped l)) (F (map clipped l)) z ≡ if (all_within l) (F l) z
clip_judged l F z = go (all_within l) refl
  where
    go : (b : Bool) → all_within l ≡ b → if (all_within (map clipped l)) (F (map clipped l)) z ≡ if (all_within l) (F l) z
    go true e = ap (λ (m : List ℤ). if (all_within m) (F m) z) (all_is l e)
    go false e = ap (λ (b : Bool). if b (F (map clipped l)) z) (all_clipped l ∙ e) ∙ sym (ap (λ (b : Bool). if b (F l) z) e)

pub all_append : (a b : List ℤ) → all_within (a ++ b) ≡ (all_within a && all_within b)
unfolding all_within
all_append [] b = refl
all_append (z ∷ a) b = go (in_32_bits z) (all_append a b)
  where
    go : (t : Bool) → all_within (a ++ b) ≡ (all_within a && all_within b) → (t && all_within (a ++ b)) ≡ ((t && all_within a) && all_within b)
    go true e = e
    go false e = refl

pub all_last : (a b : List ℤ) → all_within (a ++ b) ≡ true → all_within b ≡ true
all_last a b e = (and_true (all_within a) (all_within b) (sym (all_append a b) ∙ e)).1
