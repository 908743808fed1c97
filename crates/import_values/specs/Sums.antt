-- Run over the bytes of a sum, a frame comes to hold the sum's linear, each number judged on the way.
use Rattle.std.specs.Prelude.{◌≡◌, Bool, ℕ, zero, suc, ◌+◌, ◌≤◌, leb, ℤ, pos, negsuc, length}
use Rattle.std.proofs.Math.Path.{refl, sym, ap}
use Rattle.std.proofs.Common.{◌∙◌, arith, length-append}
use Rattle.std.proofs.Math.Bool.{true, false}
use mathlib.Core.List.{List, [], ◌∷◌, ◌++◌}
use Rattle.whole.specs.Cases.{if}
use Rattle.whole.specs.Linears.{numbers, add_list, sub_list, scale_list, clip_list}
use Rattle.theory.specs.Diagram.{Linear, no_coeffs, ◌⊠◌}
use Rattle.theory.specs.Plain.{in_32_bits}
use Rattle.import_grammar.specs.Grammar.{Spaces, Digits, Sign, adds, takes, sign_byte, Index, i1, i2, i3, i4, i5, i6, i7, i8, index_byte, ConstFactor, number}
use Rattle.import_grammar.specs.Grammar.{kbracket, ConstTerm, kfactor, ktimes, ConstSum, kterm, kneg, kplus, VaryFactor, level, vbracket, VaryTerm, vfactor}
use Rattle.import_grammar.specs.Grammar.{vscaled, vby, VarySum, vterm, vneg, plus_kv, plus_vk, plus_vv, Sum, constant, varying, spaces_bytes, digits_bytes}
use Rattle.import_grammar.specs.Grammar.{kfactor_bytes, kterm_bytes, ksum_bytes, vfactor_bytes, vterm_bytes, vsum_bytes, sum_bytes}
use Rattle.import_numbers.specs.Numbers.{digits_value, joined, level_linear, kfactor_linear, kterm_linear, ksum_linear, vfactor_linear, vterm_linear}
use Rattle.import_numbers.specs.Numbers.{vsum_linear, linear_of, nine, kfactor_numbers, kterm_numbers, ksum_numbers, vfactor_numbers, vterm_numbers}
use Rattle.import_numbers.specs.Numbers.{vsum_numbers, sum_numbers, all_within}
use Rattle.import_linears.specs.Nine.{most, constant9, level9, multiplied}
use Rattle.import_frames.specs.declared.Frame.{Frame}
use Rattle.import_frames.specs.Frames.{zero9, unit9, over, valued, factor, closed, total, on_sign, compared_with, finished, on_mark, on_digit, unless_over, step, entered, popped}
use Rattle.import_sums.specs.Run.{SumOut, stopped, run}
use Rattle.import_values.specs.Linears.{nine_scale, nine_add, nine_sub, zero-add, zero_sub, scale_one, by_left, by_right, clip_judged}
use Rattle.import_values.specs.Within.{Flat, kfactor_flat, kterm_flat, ksum_flat, Eight, flat_eight, same_long, vterm_eight, vsum_eight, kfactor_within, kterm_within, vfactor_within, vterm_within}
use Rattle.import_values.specs.Reads.{guard, g_append, g_implied, and_end, open9, full, FollowsNumber, mark, spaces_follow, run_over, run_if, spaced, calm_open, calm_full, digits_read, number_whole}

-- ---- numbers judged in the order of the bytes

g_assoc : (a b c : List ℤ) (x : SumOut) → guard (all_within (a ++ b)) (guard (all_within c) x) ≡ guard (all_within (a ++ (b ++ c))) x
g_assoc a b c x = sym (g_append a b (guard (all_within c) x)) ∙ (ap (guard (all_within a)) (g_append b c x) ∙ g_append a (b ++ c) x)

pub g_three : (a b c : List ℤ) (x : SumOut) → guard (all_within a) (guard (all_within b) (guard (all_within c) x)) ≡ guard (all_within (a ++ (b ++ c))) x
g_three a b c x = ap (guard (all_within a)) (g_append b c x) ∙ g_append a (b ++ c) x

flat_nine : (p : Linear) → Flat p → nine p ≡ constant9 p.const
unfolding no_coeffs
flat_nine p h = ap (λ (l : List ℤ). l ++ (p.const ∷ [])) h.none_but_0

-- a product of which one factor is a constant
constant_by : (p : Linear) → Flat p → (q : List ℤ) → multiplied (nine p) q ≡ clip_list p.const q
constant_by p h q = ap (λ (u : List ℤ). multiplied u q) (flat_nine p h) ∙ by_left p.const q

by_constant : (p : Linear) → Flat p → (q : List ℤ) → multiplied q (nine p) ≡ clip_list p.const q
by_constant p h q = ap (λ (u : List ℤ). multiplied q u) (flat_nine p h) ∙ by_right q p.const

nine_long : (p : Linear) → Eight p → length (nine p) ≡ numbers
nine_long p h = length-append p.coeffs (p.const ∷ []) ∙ ap (λ (n : ℕ). n + 1) h.long

-- ---- the last term of a sum, and what stands before it

abbrev minus_of : Sign → Bool
minus_of adds = false
minus_of takes = true

abbrev tot : List ℤ → Bool → List ℤ → List ℤ
tot X m t = if m (sub_list X t) (add_list X t)

pub first_tot : (t : Linear) → Eight t → tot zero9 false (nine t) ≡ nine t
first_tot t h = zero-add (nine t) (nine_long t h)

neg_tot : (t : Linear) → Eight t → tot zero9 true (nine t) ≡ nine (negsuc 0 ⊠ t)
neg_tot t h = zero_sub (nine t) (nine_long t h) ∙ nine_scale (negsuc 0) t

plus_tot : (g : Sign) (s t : Linear) → Eight s → Eight t → tot (nine s) (minus_of g) (nine t) ≡ nine (joined g s t)
plus_tot adds s t a b = nine_add s t (same_long s t a b)
plus_tot takes s t a b = nine_sub s t (same_long s t a b)

abbrev k_left : {n : ℕ} → ConstSum n → List ℤ
k_left (kterm t) = zero9
k_left (kneg p t) = zero9
k_left (kplus s p g t) = nine (ksum_linear s)

abbrev km : {n : ℕ} → ConstSum n → Bool
km (kterm t) = false
km (kneg p t) = true
km (kplus s p g t) = minus_of g

abbrev kt : {n : ℕ} → ConstSum n → List ℤ
kt (kterm t) = nine (kterm_linear t)
kt (kneg p t) = nine (kterm_linear t)
kt (kplus s p g t) = nine (kterm_linear t)

abbrev kbefore : {n : ℕ} → ConstSum n → List ℤ
kbefore (kterm t) = kterm_numbers t
kbefore (kneg p t) = kterm_numbers t
kbefore (kplus s p g t) = ksum_numbers s ++ kterm_numbers t

ksum_tot : {n : ℕ} (s : ConstSum n) → tot (k_left s) (km s) (kt s) ≡ nine (ksum_linear s)
unfolding kfactor_linear
ksum_tot (kterm t) = first_tot (kterm_linear t) (flat_eight (kterm_flat t))
ksum_tot (kneg p t) = neg_tot (kterm_linear t) (flat_eight (kterm_flat t))
ksum_tot (kplus s p g t) = plus_tot g (ksum_linear s) (kterm_linear t) (flat_eight (ksum_flat s)) (flat_eight (kterm_flat t))

ksum_split : {n : ℕ} (s : ConstSum n) (x : SumOut) → guard (all_within (kbefore s)) (guard (all_within (nine (ksum_linear s))) x) ≡ guard (all_within (ksum_numbers s)) x
unfolding kfactor_numbers kfactor_linear
ksum_split (kterm t) x = g_implied (all_within (kterm_numbers t)) (all_within (nine (kterm_linear t))) x (kterm_within t)
ksum_split (kneg p t) x = g_append (kterm_numbers t) (nine (ksum_linear (kneg p t))) x
ksum_split (kplus s p g t) x = g_assoc (ksum_numbers s) (kterm_numbers t) (nine (ksum_linear (kplus s p g t))) x

abbrev v_left : {n : ℕ} → VarySum n → List ℤ
v_left (vterm t) = zero9
v_left (vneg p t) = zero9
v_left (plus_kv s p g t) = nine (ksum_linear s)
v_left (plus_vk s p g t) = nine (vsum_linear s)
v_left (plus_vv s p g t) = nine (vsum_linear s)

abbrev vm : {n : ℕ} → VarySum n → Bool
vm (vterm t) = false
vm (vneg p t) = true
vm (plus_kv s p g t) = minus_of g
vm (plus_vk s p g t) = minus_of g
vm (plus_vv s p g t) = minus_of g

abbrev vt : {n : ℕ} → VarySum n → List ℤ
vt (vterm t) = nine (vterm_linear t)
vt (vneg p t) = nine (vterm_linear t)
vt (plus_kv s p g t) = nine (vterm_linear t)
vt (plus_vk s p g t) = nine (kterm_linear t)
vt (plus_vv s p g t) = nine (vterm_linear t)

abbrev vbefore : {n : ℕ} → VarySum n → List ℤ
vbefore (vterm t) = vterm_numbers t
vbefore (vneg p t) = vterm_numbers t
vbefore (plus_kv s p g t) = ksum_numbers s ++ vterm_numbers t
vbefore (plus_vk s p g t) = vsum_numbers s ++ kterm_numbers t
vbefore (plus_vv s p g t) = vsum_numbers s ++ vterm_numbers t

vsum_tot : {n : ℕ} (s : VarySum n) → tot (v_left s) (vm s) (vt s) ≡ nine (vsum_linear s)
unfolding vfactor_linear
vsum_tot (vterm t) = first_tot (vterm_linear t) (vterm_eight t)
vsum_tot (vneg p t) = neg_tot (vterm_linear t) (vterm_eight t)
vsum_tot (plus_kv s p g t) = plus_tot g (ksum_linear s) (vterm_linear t) (flat_eight (ksum_flat s)) (vterm_eight t)
vsum_tot (plus_vk s p g t) = plus_tot g (vsum_linear s) (kterm_linear t) (vsum_eight s) (flat_eight (kterm_flat t))
vsum_tot (plus_vv s p g t) = plus_tot g (vsum_linear s) (vterm_linear t) (vsum_eight s) (vterm_eight t)

vsum_split : {n : ℕ} (s : VarySum n) (x : SumOut) → guard (all_within (vbefore s)) (guard (all_within (nine (vsum_linear s))) x) ≡ guard (all_within (vsum_numbers s)) x
unfolding vfactor_numbers vfactor_linear
vsum_split (vterm t) x = g_implied (all_within (vterm_numbers t)) (all_within (nine (vterm_linear t))) x (vterm_within t)
vsum_split (vneg p t) x = g_append (vterm_numbers t) (nine (vsum_linear (vneg p t))) x
vsum_split (plus_kv s p g t) x = g_assoc (ksum_numbers s) (vterm_numbers t) (nine (vsum_linear (plus_kv s p g t))) x
vsum_split (plus_vk s p g t) x = g_assoc (vsum_numbers s) (kterm_numbers t) (nine (vsum_linear (plus_vk s p g t))) x
vsum_split (plus_vv s p g t) x = g_assoc (vsum_numbers s) (vterm_numbers t) (nine (vsum_linear (plus_vv s p g t))) x

sign_follows : (g : Sign) (w : List ℕ) → FollowsNumber (sign_byte g ∷ w)
sign_follows adds w = mark refl refl
sign_follows takes w = mark refl refl

module _ (only : Bool) where
  module _ (d : ℕ) (S : List Frame) (L : List ℤ) (C : ℕ) where
    -- a product in the order of the definition
    pub product_read : (X : List ℤ) (m : Bool) (l : List ℤ) (k : ℤ) (a r : List ℤ) (f : List ℕ) → l ≡ clip_list k a → scale_list k a ≡ r → guard (all_within l)
        (run only d S (full L C X m l) f) ≡ guard (all_within r) (run only d S (full L C X m r) f)
    product_read X m l k a r f e h =
        ap (λ (u : List ℤ). guard (all_within u) (run only d S (full L C X m u) f)) e
        ∙ (clip_judged (scale_list k a) (λ (u : List ℤ). run only d S (full L C X m u) f) stopped
        ∙ ap (λ (u : List ℤ). guard (all_within u) (run only d S (full L C X m u) f)) h)

    sign_read : (X : List ℤ) (m : Bool) (t : List ℤ) (g : Sign) (w : List ℕ) → run only d S (full L C X m t) (sign_byte g ∷ w) ≡ guard (all_within (tot X m t)) (run only d S (open9 L C (tot X m t) (minus_of g) unit9) w)
    unfolding run step closed on_mark on_sign total
    sign_read X m t adds w = run_if only d S (all_within (tot X m t)) (open9 L C (tot X m t) false unit9) w
    sign_read X m t takes w = run_if only d S (all_within (tot X m t)) (open9 L C (tot X m t) true unit9) w

    times_read : (X : List ℤ) (m : Bool) (t : List ℤ) (p : Spaces) (w : List ℕ) → run only d S (full L C X m t) (spaces_bytes p (42 ∷ w)) ≡ run only d S (open9 L C X m t) w
    unfolding run step closed on_mark
    times_read X m t p w = spaced only d S (full L C X m t) (calm_full only d S L C X m t) p (42 ∷ w)

    minus_read : (p : Spaces) (w : List ℕ) → run only d S (open9 L C zero9 false unit9) (spaces_bytes p (45 ∷ w)) ≡ run only d S (open9 L C zero9 true unit9) w
    unfolding run step closed on_mark on_sign
    minus_read p w = spaced only d S (open9 L C zero9 false unit9) (calm_open only d S L C zero9 false unit9) p (45 ∷ w)

    -- a sign and a term behind a sum
    plus_read : (B N : List ℤ) (X : List ℤ) (m : Bool) (t T : List ℤ) → tot X m t ≡ T → ((x : SumOut) → guard (all_within B) (guard (all_within T) x) ≡ guard (all_within N) x)
        → (p : Spaces) (g : Sign) (w : List ℕ) (M : List ℤ) (x : SumOut) → run only d S (open9 L C T (minus_of g) unit9) w ≡ guard (all_within M) x
        → guard (all_within B) (run only d S (full L C X m t) (spaces_bytes p (sign_byte g ∷ w))) ≡ guard (all_within (N ++ M)) x
    plus_read B N X m t T e split p g w M x r =
        ap (guard (all_within B)) (spaced only d S (full L C X m t) (calm_full only d S L C X m t) p (sign_byte g ∷ w)
        ∙ (sign_read X m t g w ∙ ap (λ (u : List ℤ). guard (all_within u) (run only d S (open9 L C u (minus_of g) unit9) w)) e))
        ∙ (split (run only d S (open9 L C T (minus_of g) unit9) w) ∙ (ap (guard (all_within N)) r ∙ g_append N M x))

    -- a term of one factor
    alone_read : (X : List ℤ) (m : Bool) (N a : List ℤ) (w f : List ℕ) → run only d S (open9 L C X m unit9) w ≡ guard (all_within N) (guard (all_within (multiplied unit9 a)) (run only d S (full L C X m (multiplied unit9 a)) f))
        → (all_within N ≡ true → all_within a ≡ true) → run only d S (open9 L C X m unit9) w ≡ guard (all_within N) (run only d S (full L C X m a) f)
    alone_read X m N a w f r h =
        r ∙ (ap (guard (all_within N)) (product_read X m (multiplied unit9 a) (pos 1) a a f (by_left (pos 1) a) (scale_one a)) ∙ g_implied (all_within N) (all_within a) (run only d S (full L C X m a) f) h)

    -- a factor b behind a term t: k times a
    times_then : (X : List ℤ) (m : Bool) (N M t b : List ℤ) (k : ℤ) (a r : List ℤ) (p : Spaces) (w f : List ℕ) → multiplied t b ≡ clip_list k a → scale_list k a ≡ r
        → run only d S (open9 L C X m t) w ≡ guard (all_within M) (guard (all_within (multiplied t b)) (run only d S (full L C X m (multiplied t b)) f))
        → guard (all_within N) (run only d S (full L C X m t) (spaces_bytes p (42 ∷ w))) ≡ guard (all_within (N ++ (M ++ r))) (run only d S (full L C X m r) f)
    times_then X m N M t b k a r p w f e h q =
        ap (guard (all_within N)) (times_read X m t p w ∙ (q ∙ ap (guard (all_within M)) (product_read X m (multiplied t b) k a r f e h)))
        ∙ g_three N M r (run only d S (full L C X m r) f)

  -- ")" behind a sum
  module _ (d : ℕ) (S : List Frame) (L : List ℤ) (C : ℕ) (X : List ℤ) (m : Bool) (t : List ℤ) where
    entered_read : (b : Bool) (T : List ℤ) (f : List ℕ) → run only d S (unless_over (if b (valued T) over) (entered (open9 L C X m t) (if b (valued T) over))) f ≡ guard b (run only d S (factor (open9 L C X m t) T) f)
    unfolding entered
    entered_read true T f = refl
    entered_read false T f = run_over only d S f

    factor_read : (T : List ℤ) (f : List ℕ) → run only d S (factor (open9 L C X m t) T) f ≡ guard (all_within (multiplied t T)) (run only d S (full L C X m (multiplied t T)) f)
    unfolding factor
    factor_read T f = run_if only d S (all_within (multiplied t T)) (full L C X m (multiplied t T)) f

  close_read : (d : ℕ) (S : List Frame) (L : List ℤ) (C : ℕ) (X : List ℤ) (m : Bool) (t : List ℤ) (X' : List ℤ) (m' : Bool) (t' T : List ℤ) → tot X' m' t' ≡ T → (q : Spaces) (f : List ℕ)
      → run only d (open9 L C X m t ∷ S) (full zero9 0 X' m' t') (spaces_bytes q (41 ∷ f)) ≡ guard (all_within T) (guard (all_within (multiplied t T)) (run only (suc d) S (full L C X m (multiplied t T)) f))
  unfolding run closed finished compared_with total popped
  close_read d S L C X m t X' m' t' T e q f =
      spaced only d (open9 L C X m t ∷ S) (full zero9 0 X' m' t') (calm_full only d (open9 L C X m t ∷ S) zero9 0 X' m' t') q (41 ∷ f)
      ∙ (entered_read (suc d) S L C X m t (all_within (tot X' m' t')) (tot X' m' t') f
      ∙ (ap (guard (all_within (tot X' m' t'))) (factor_read (suc d) S L C X m t (tot X' m' t') f)
      ∙ ap (λ (u : List ℤ). guard (all_within u) (guard (all_within (multiplied t u)) (run only (suc d) S (full L C X m (multiplied t u)) f))) e))

  pub open_read : (d : ℕ) (S : List Frame) (L : List ℤ) (C : ℕ) (X : List ℤ) (m : Bool) (t : List ℤ) (p : Spaces) (w : List ℕ) → run only (suc d) S (open9 L C X m t)
      (spaces_bytes p (40 ∷ w)) ≡ run only d (open9 L C X m t ∷ S) (open9 zero9 0 zero9 false unit9) w
  unfolding run
  open_read d S L C X m t p w = spaced only (suc d) S (open9 L C X m t) (calm_open only (suc d) S L C X m t) p (40 ∷ w)

  -- a sum in brackets
  bracket_read : (d : ℕ) (S : List Frame) (L : List ℤ) (C : ℕ) (X : List ℤ) (m : Bool) (t : List ℤ) (B N X' : List ℤ) (m' : Bool) (t' T : List ℤ) → tot X' m' t' ≡ T →
      ((x : SumOut) → guard (all_within B) (guard (all_within T) x) ≡ guard (all_within N) x)
      → (p q : Spaces) (w f : List ℕ) → run only d (open9 L C X m t ∷ S) (open9 zero9 0 zero9 false unit9) w ≡ guard (all_within B) (run only d (open9 L C X m t ∷ S) (full zero9 0 X' m' t') (spaces_bytes q (41 ∷ f)))
      → run only (suc d) S (open9 L C X m t) (spaces_bytes p (40 ∷ w)) ≡ guard (all_within N) (guard (all_within (multiplied t T)) (run only (suc d) S (full L C X m (multiplied t T)) f))
  bracket_read d S L C X m t B N X' m' t' T e split p q w f r =
      open_read d S L C X m t p w
      ∙ (r ∙ (ap (guard (all_within B)) (close_read d S L C X m t X' m' t' T e q f) ∙ split (guard (all_within (multiplied t T)) (run only (suc d) S (full L C X m (multiplied t T)) f))))

  number_read : (d : ℕ) (S : List Frame) (L : List ℤ) (C : ℕ) (X : List ℤ) (m : Bool) (t : List ℤ) (p : Spaces) (ds : Digits) (f : List ℕ) → FollowsNumber f
      → run only d S (open9 L C X m t) (spaces_bytes p (digits_bytes ds f)) ≡ guard (all_within (pos (digits_value ds) ∷ []))
      (guard (all_within (multiplied t (constant9 (pos (digits_value ds))))) (run only d S (full L C X m (multiplied t (constant9 (pos (digits_value ds))))) f))
  unfolding all_within in_32_bits
  number_read d S L C X m t p ds f h =
      spaced only d S (open9 L C X m t) (calm_open only d S L C X m t) p (digits_bytes ds f)
      ∙ (digits_read only d S L C X m t ds f
      ∙ (ap (guard (leb (digits_value ds) most)) (number_whole only d S L C X m t (digits_value ds) h)
      ∙ sym (ap (λ (b : Bool). guard b (guard (all_within (multiplied t (constant9 (pos (digits_value ds))))) (run only d S (full L C X m (multiplied t (constant9 (pos (digits_value ds))))) f))) (and_end (leb (digits_value ds) most)))))

  pub none_deep : {A : Type 0} {n : ℕ} → suc n ≤ 0 → A
  none_deep h = absurd (omega arith)

  mutual
    unfolding kfactor_bytes kfactor_numbers kfactor_linear no_coeffs

    pub kfactor_read : {n : ℕ} (x : ConstFactor n) (d : ℕ) → n ≤ d → (S : List Frame) (L : List ℤ) (C : ℕ) (X : List ℤ) (m : Bool) (t : List ℤ) (f : List ℕ) → FollowsNumber f
        → run only d S (open9 L C X m t) (kfactor_bytes x f) ≡ guard (all_within (kfactor_numbers x)) (guard (all_within (multiplied t (nine (kfactor_linear x)))) (run only d S (full L C X m (multiplied t (nine (kfactor_linear x)))) f))
    kfactor_read (number p ds) d h S L C X m t f F = number_read d S L C X m t p ds f F
    kfactor_read (kbracket p s q) zero h S L C X m t f F = none_deep h
    kfactor_read (kbracket p s q) (suc d) h S L C X m t f F =
        bracket_read d S L C X m t (kbefore s) (ksum_numbers s) (k_left s) (km s) (kt s) (nine (ksum_linear s)) (ksum_tot s) (ksum_split s) p q (ksum_bytes s (spaces_bytes q (41 ∷ f))) f
        (ksum_read s d (omega arith) (open9 L C X m t ∷ S) zero9 0 (spaces_bytes q (41 ∷ f)) (spaces_follow q (mark refl refl)))

    pub kterm_read : {n : ℕ} (y : ConstTerm n) (d : ℕ) → n ≤ d → (S : List Frame) (L : List ℤ) (C : ℕ) (X : List ℤ) (m : Bool) (f : List ℕ) → FollowsNumber f
        → run only d S (open9 L C X m unit9) (kterm_bytes y f) ≡ guard (all_within (kterm_numbers y)) (run only d S (full L C X m (nine (kterm_linear y))) f)
    kterm_read (kfactor x) d h S L C X m f F =
        alone_read d S L C X m (kfactor_numbers x) (nine (kfactor_linear x)) (kfactor_bytes x f) f (kfactor_read x d h S L C X m unit9 f F) (kfactor_within x)
    kterm_read (ktimes y p x) d h S L C X m f F =
        kterm_read y d h S L C X m (spaces_bytes p (42 ∷ kfactor_bytes x f)) (spaces_follow p (mark refl refl))
        ∙ times_then d S L C X m (kterm_numbers y) (kfactor_numbers x) (nine (kterm_linear y)) (nine (kfactor_linear x)) (kterm_linear y).const (nine (kfactor_linear x)) (nine (kterm_linear (ktimes y p x))) p (kfactor_bytes x f) f
        (constant_by (kterm_linear y) (kterm_flat y) (nine (kfactor_linear x))) (nine_scale (kterm_linear y).const (kfactor_linear x)) (kfactor_read x d h S L C X m (nine (kterm_linear y)) f F)

    pub ksum_read : {n : ℕ} (s : ConstSum n) (d : ℕ) → n ≤ d → (S : List Frame) (L : List ℤ) (C : ℕ) (f : List ℕ) → FollowsNumber f
        → run only d S (open9 L C zero9 false unit9) (ksum_bytes s f) ≡ guard (all_within (kbefore s)) (run only d S (full L C (k_left s) (km s) (kt s)) f)
    ksum_read (kterm y) d h S L C f F = kterm_read y d h S L C zero9 false f F
    ksum_read (kneg p y) d h S L C f F = minus_read d S L C p (kterm_bytes y f) ∙ kterm_read y d h S L C zero9 true f F
    ksum_read (kplus s p g y) d h S L C f F =
        ksum_read s d h S L C (spaces_bytes p (sign_byte g ∷ kterm_bytes y f)) (spaces_follow p (sign_follows g (kterm_bytes y f)))
        ∙ plus_read d S L C (kbefore s) (ksum_numbers s) (k_left s) (km s) (kt s) (nine (ksum_linear s)) (ksum_tot s) (ksum_split s) p g (kterm_bytes y f) (kterm_numbers y)
        (run only d S (full L C (nine (ksum_linear s)) (minus_of g) (nine (kterm_linear y))) f)
        (kterm_read y d h S L C (nine (ksum_linear s)) (minus_of g) f F)

  module _ (d : ℕ) (S : List Frame) (L : List ℤ) (C : ℕ) (X : List ℤ) (m : Bool) (t : List ℤ) where
    pub level_digit : (i : Index) (f : List ℕ) → run only d S (open9 L C X m t) (76 ∷ index_byte i ∷ f) ≡ guard (all_within (multiplied t (nine (level_linear i)))) (run only d S (full L C X m (multiplied t (nine (level_linear i)))) f)
    unfolding run step closed on_mark on_digit factor level9
    level_digit i1 f = run_if only d S (all_within (multiplied t (nine (level_linear i1)))) (full L C X m (multiplied t (nine (level_linear i1)))) f
    level_digit i2 f = run_if only d S (all_within (multiplied t (nine (level_linear i2)))) (full L C X m (multiplied t (nine (level_linear i2)))) f
    level_digit i3 f = run_if only d S (all_within (multiplied t (nine (level_linear i3)))) (full L C X m (multiplied t (nine (level_linear i3)))) f
    level_digit i4 f = run_if only d S (all_within (multiplied t (nine (level_linear i4)))) (full L C X m (multiplied t (nine (level_linear i4)))) f
    level_digit i5 f = run_if only d S (all_within (multiplied t (nine (level_linear i5)))) (full L C X m (multiplied t (nine (level_linear i5)))) f
    level_digit i6 f = run_if only d S (all_within (multiplied t (nine (level_linear i6)))) (full L C X m (multiplied t (nine (level_linear i6)))) f
    level_digit i7 f = run_if only d S (all_within (multiplied t (nine (level_linear i7)))) (full L C X m (multiplied t (nine (level_linear i7)))) f
    level_digit i8 f = run_if only d S (all_within (multiplied t (nine (level_linear i8)))) (full L C X m (multiplied t (nine (level_linear i8)))) f

    level_read : (p : Spaces) (i : Index) (f : List ℕ) → run only d S (open9 L C X m t) (spaces_bytes p (76 ∷ index_byte i ∷ f)) ≡ guard
        (all_within (multiplied t (nine (level_linear i)))) (run only d S (full L C X m (multiplied t (nine (level_linear i)))) f)
    level_read p i f = spaced only d S (open9 L C X m t) (calm_open only d S L C X m t) p (76 ∷ index_byte i ∷ f) ∙ level_digit i f

  mutual
    unfolding kfactor_bytes vfactor_bytes vfactor_numbers vfactor_linear all_within

    pub vfactor_read : {n : ℕ} (x : VaryFactor n) (d : ℕ) → n ≤ d → (S : List Frame) (L : List ℤ) (C : ℕ) (X : List ℤ) (m : Bool) (t : List ℤ) (f : List ℕ) → FollowsNumber f
        → run only d S (open9 L C X m t) (vfactor_bytes x f) ≡ guard (all_within (vfactor_numbers x)) (guard (all_within (multiplied t (nine (vfactor_linear x)))) (run only d S (full L C X m (multiplied t (nine (vfactor_linear x)))) f))
    vfactor_read (level p i) d h S L C X m t f F = level_read d S L C X m t p i f
    vfactor_read (vbracket p s q) zero h S L C X m t f F = none_deep h
    vfactor_read (vbracket p s q) (suc d) h S L C X m t f F =
        bracket_read d S L C X m t (vbefore s) (vsum_numbers s) (v_left s) (vm s) (vt s) (nine (vsum_linear s)) (vsum_tot s) (vsum_split s) p q (vsum_bytes s (spaces_bytes q (41 ∷ f))) f
        (vsum_read s d (omega arith) (open9 L C X m t ∷ S) zero9 0 (spaces_bytes q (41 ∷ f)) (spaces_follow q (mark refl refl)))

    pub vterm_read : {n : ℕ} (y : VaryTerm n) (d : ℕ) → n ≤ d → (S : List Frame) (L : List ℤ) (C : ℕ) (X : List ℤ) (m : Bool) (f : List ℕ) → FollowsNumber f
        → run only d S (open9 L C X m unit9) (vterm_bytes y f) ≡ guard (all_within (vterm_numbers y)) (run only d S (full L C X m (nine (vterm_linear y))) f)
    vterm_read (vfactor x) d h S L C X m f F =
        alone_read d S L C X m (vfactor_numbers x) (nine (vfactor_linear x)) (vfactor_bytes x f) f (vfactor_read x d h S L C X m unit9 f F) (vfactor_within x)
    vterm_read (vscaled y p x) d h S L C X m f F =
        kterm_read y d h S L C X m (spaces_bytes p (42 ∷ vfactor_bytes x f)) (spaces_follow p (mark refl refl))
        ∙ times_then d S L C X m (kterm_numbers y) (vfactor_numbers x) (nine (kterm_linear y)) (nine (vfactor_linear x)) (kterm_linear y).const (nine (vfactor_linear x)) (nine (vterm_linear (vscaled y p x))) p (vfactor_bytes x f) f
        (constant_by (kterm_linear y) (kterm_flat y) (nine (vfactor_linear x))) (nine_scale (kterm_linear y).const (vfactor_linear x)) (vfactor_read x d h S L C X m (nine (kterm_linear y)) f F)
    vterm_read (vby y p x) d h S L C X m f F =
        vterm_read y d h S L C X m (spaces_bytes p (42 ∷ kfactor_bytes x f)) (spaces_follow p (mark refl refl))
        ∙ times_then d S L C X m (vterm_numbers y) (kfactor_numbers x) (nine (vterm_linear y)) (nine (kfactor_linear x)) (kfactor_linear x).const (nine (vterm_linear y)) (nine (vterm_linear (vby y p x))) p (kfactor_bytes x f) f
        (by_constant (kfactor_linear x) (kfactor_flat x) (nine (vterm_linear y))) (nine_scale (kfactor_linear x).const (vterm_linear y)) (kfactor_read x d h S L C X m (nine (vterm_linear y)) f F)

    pub vsum_read : {n : ℕ} (s : VarySum n) (d : ℕ) → n ≤ d → (S : List Frame) (L : List ℤ) (C : ℕ) (f : List ℕ) → FollowsNumber f
        → run only d S (open9 L C zero9 false unit9) (vsum_bytes s f) ≡ guard (all_within (vbefore s)) (run only d S (full L C (v_left s) (vm s) (vt s)) f)
    vsum_read (vterm y) d h S L C f F = vterm_read y d h S L C zero9 false f F
    vsum_read (vneg p y) d h S L C f F = minus_read d S L C p (vterm_bytes y f) ∙ vterm_read y d h S L C zero9 true f F
    vsum_read (plus_kv s p g y) d h S L C f F =
        ksum_read s d h S L C (spaces_bytes p (sign_byte g ∷ vterm_bytes y f)) (spaces_follow p (sign_follows g (vterm_bytes y f)))
        ∙ plus_read d S L C (kbefore s) (ksum_numbers s) (k_left s) (km s) (kt s) (nine (ksum_linear s)) (ksum_tot s) (ksum_split s) p g (vterm_bytes y f) (vterm_numbers y)
        (run only d S (full L C (nine (ksum_linear s)) (minus_of g) (nine (vterm_linear y))) f)
        (vterm_read y d h S L C (nine (ksum_linear s)) (minus_of g) f F)
    vsum_read (plus_vk s p g y) d h S L C f F =
        vsum_read s d h S L C (spaces_bytes p (sign_byte g ∷ kterm_bytes y f)) (spaces_follow p (sign_follows g (kterm_bytes y f)))
        ∙ plus_read d S L C (vbefore s) (vsum_numbers s) (v_left s) (vm s) (vt s) (nine (vsum_linear s)) (vsum_tot s) (vsum_split s) p g (kterm_bytes y f) (kterm_numbers y)
        (run only d S (full L C (nine (vsum_linear s)) (minus_of g) (nine (kterm_linear y))) f)
        (kterm_read y d h S L C (nine (vsum_linear s)) (minus_of g) f F)
    vsum_read (plus_vv s p g y) d h S L C f F =
        vsum_read s d h S L C (spaces_bytes p (sign_byte g ∷ vterm_bytes y f)) (spaces_follow p (sign_follows g (vterm_bytes y f)))
        ∙ plus_read d S L C (vbefore s) (vsum_numbers s) (v_left s) (vm s) (vt s) (nine (vsum_linear s)) (vsum_tot s) (vsum_split s) p g (vterm_bytes y f) (vterm_numbers y)
        (run only d S (full L C (nine (vsum_linear s)) (minus_of g) (nine (vterm_linear y))) f)
        (vterm_read y d h S L C (nine (vsum_linear s)) (minus_of g) f F)

-- ---- of either kind

abbrev pub sum_X : {n : ℕ} → Sum n → List ℤ
sum_X (constant s) = k_left s
sum_X (varying s) = v_left s

abbrev pub sum_m : {n : ℕ} → Sum n → Bool
sum_m (constant s) = km s
sum_m (varying s) = vm s

abbrev pub sum_t : {n : ℕ} → Sum n → List ℤ
sum_t (constant s) = kt s
sum_t (varying s) = vt s

abbrev pub sum_before : {n : ℕ} → Sum n → List ℤ
sum_before (constant s) = kbefore s
sum_before (varying s) = vbefore s

-- the frame behind a sum
abbrev pub behind_sum : {n : ℕ} → List ℤ → ℕ → Sum n → Frame
behind_sum L C s = full L C (sum_X s) (sum_m s) (sum_t s)

pub sum_total : {n : ℕ} (s : Sum n) (L : List ℤ) (C : ℕ) → total (behind_sum L C s) ≡ nine (linear_of n s)
unfolding total linear_of
sum_total (constant s) L C = ksum_tot s
sum_total (varying s) L C = vsum_tot s

pub sum_split : {n : ℕ} (s : Sum n) (x : SumOut) → guard (all_within (sum_before s)) (guard (all_within (nine (linear_of n s))) x) ≡ guard (all_within (sum_numbers n s)) x
unfolding linear_of sum_numbers
sum_split (constant s) x = ksum_split s x
sum_split (varying s) x = vsum_split s x

pub sum_eight : {n : ℕ} (s : Sum n) → Eight (linear_of n s)
unfolding linear_of
sum_eight (constant s) = flat_eight (ksum_flat s)
sum_eight (varying s) = vsum_eight s

pub sum_read : (only : Bool) {n : ℕ} (s : Sum n) (d : ℕ) → n ≤ d → (S : List Frame) (L : List ℤ) (C : ℕ) (f : List ℕ) → FollowsNumber f → run only d S
    (open9 L C zero9 false unit9) (sum_bytes s f) ≡ guard (all_within (sum_before s)) (run only d S (behind_sum L C s) f)
unfolding sum_bytes
sum_read only (constant s) d h S L C f F = ksum_read only s d h S L C f F
sum_read only (varying s) d h S L C f F = vsum_read only s d h S L C f F
