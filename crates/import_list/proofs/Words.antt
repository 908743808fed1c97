-- A word tells its entry, and a write on top leaves the entries below.
use mathlib.Core.Path.{◌≡◌, refl, sym, ap, ◌∙◌}
use mathlib.Core.Bool.{Bool, true, false}
use mathlib.Core.List.{List, [], ◌∷◌}
use Prim.Native.Nat.{ℕ, zero, suc, ◌+◌, ◌-◌, ◌*◌, ◌/◌, ◌%◌, ◌≤◌, ◌<◌}
use native.Mathlib.Omega.{arith}
use lib.Dec.{eqb}
use lib.ListN.{length, get_or, set, length-set}
use lib.Seq.{get_or-set_same, get_or-set_other}
use borrow.Author.Tests.{ne_eqb, eq-eqb}
use Rattle.import_going.specs.Turns.{bit_of}
use Rattle.import_going.proofs.Reaching.{bit_most}
use Rattle.import_list.specs.declared.Entry.{Entry}
use Rattle.import_list.specs.Packed.{packed, unpacked, FitsWord, entries, Pushed}

bit_back : (n : ℕ) (b : Bool) → n ≡ bit_of b → eqb n 1 ≡ b
bit_back n true e = eq-eqb n 1 e
bit_back n false e = ne_eqb n 1 (λ f. omega (arith, e, f))

module _ (a c m s t x : ℕ) (p : a < 524288) (q : c < 64) (r : m < 4294967296) (u : s ≤ 1) (v : t ≤ 1) (e : x ≡ (((a * 64 + c) * 4294967296 + m) * 2 + s) * 2 + t) where
  place_back : x / 1099511627776 ≡ a
  place_back = omega (arith, p, q, r, u, v, e)

  count_back : x / 17179869184 % 64 ≡ c
  count_back = omega (arith, p, q, r, u, v, e)

  mask_back : x / 4 % 4294967296 ≡ m
  mask_back = omega (arith, p, q, r, u, v, e)

  sign_back : x / 2 % 2 ≡ s
  sign_back = omega (arith, p, q, r, u, v, e)

  both_back : x % 2 ≡ t
  both_back = omega (arith, p, q, r, u, v, e)

pub back : (e : Entry) → FitsWord e → unpacked (packed e) ≡ e
unfolding unpacked packed
back e f =
    let s = bit_of e.sign in
    let t = bit_of e.both in
    let u = bit_most e.sign in
    let v = bit_most e.both in
    let a = place_back e.at e.count e.mask s t (packed e) f.place f.shallow f.low u v refl in
    let c = count_back e.at e.count e.mask s t (packed e) f.place f.shallow f.low u v refl in
    let m = mask_back e.at e.count e.mask s t (packed e) f.place f.shallow f.low u v refl in
    let g = bit_back (packed e / 2 % 2) e.sign (sign_back e.at e.count e.mask s t (packed e) f.place f.shallow f.low u v refl) in
    let b = bit_back (packed e % 2) e.both (both_back e.at e.count e.mask s t (packed e) f.place f.shallow f.low u v refl) in
    λ i. record { at = a i; sign = g i; mask = m i; count = c i; both = b i }

below : (l : List ℕ) (n x k : ℕ) → k ≤ n → entries (set l n x) k ≡ entries l k
unfolding entries
below l n x zero h = refl
below l n x (suc k) h =
    let g = get_or-set_other l n k x 0 (λ q. omega (arith, q, h)) in
    let t = below l n x k (omega (arith, h)) in
    λ i. unpacked (g i) ∷ t i

pub pushed : (l : List ℕ) (n : ℕ) (e : Entry) (x : ℕ) → x ≡ packed e → FitsWord e → n < length l → Pushed l n e (set l n x)
unfolding entries
pushed l n e x p f h =
    let g = ap unpacked (get_or-set_same l n x 0 h ∙ p) ∙ back e f in
    let t = below l n x n (omega arith) in
    record { now_are = λ i. g i ∷ t i; room = length-set l n x }

pub latest : (l : List ℕ) (n : ℕ) (e : Entry) → 0 < n → e ≡ unpacked (get_or l (n - 1) 0) → entries l n ≡ e ∷ entries l (n - 1)
unfolding entries
latest l zero e h p = absurd (omega (arith, h))
latest l (suc n) e h p =
    let g : n ≡ suc n - 1 = omega arith in
    λ i. (ap (λ (k : ℕ). unpacked (get_or l k 0)) g ∙ sym p) i ∷ entries l (g i)
