-- Facts in three words of bits: what a push, a pop and a choice leave.
use mathlib.Core.Path.{◌≡◌, refl, sym, ap, ap₂, ◌∙◌}
use mathlib.Core.Bool.{Bool, true, false, ◌&&◌, ◌||◌}
use mathlib.Core.List.{List, [], ◌∷◌}
use Prim.Native.Nat.{ℕ, zero, suc, ◌+◌, ◌-◌, ◌*◌, ◌/◌, ◌%◌, ◌^◌, ◌≤◌, ◌<◌}
use native.Mathlib.Numerals.{add-one}
use native.Mathlib.Omega.{arith}
use lib.Dec.{eqb}
use lib.ListN.{length, drop, length-drop}
use lib.Pow.{field, mod-mod-pow}
use Rattle.whole.specs.Cases.{if}
use Rattle.theory.specs.Widths.{stack_most}
use Rattle.theory.specs.Verdict.{or, Facts, top, joined}
use Rattle.model_facts.specs.declared.Seen.{Seen}
use Rattle.model_facts.specs.Seen.{seen_in, seen}

pub seen_length : (l w x n : ℕ) → length (seen_in l w x n) ≡ n
unfolding seen_in
seen_length l w x zero = refl
seen_length l w x (suc n) = ap suc (seen_length (l / 2) (w / 2) (x / 2) n)

-- n bits of a word that keeps more of them
seen_kept : (n d l w x : ℕ) → seen_in (l % 2 ^ (n + d)) (w % 2 ^ (n + d)) (x % 2 ^ (n + d)) n ≡ seen_in l w x n
unfolding seen_in
seen_kept zero d l w x = refl
seen_kept (suc n) d l w x =
    let e : suc n + d ≡ n + d + 1 = omega arith in
    ap (λ (k : ℕ). seen_in (l % 2 ^ k) (w % 2 ^ k) (x % 2 ^ k) (suc n)) e
    ∙ (λ i. record { next_step = eqb (mod-mod-pow l (n + d) 1 i) 1; weights = eqb (mod-mod-pow w (n + d) 1 i) 1; forbids = eqb (mod-mod-pow x (n + d) 1 i) 1 } ∷ seen_in (field l (n + d) 1 i) (field w (n + d) 1 i) (field x (n + d) 1 i) n)
    ∙ ap (λ (r : List Facts). record { next_step = eqb (l % 2) 1; weights = eqb (w % 2) 1; forbids = eqb (x % 2) 1 } ∷ r) (seen_kept n d (l / 2) (w / 2) (x / 2))

bit_low : (r : ℕ) (b : Bool) → eqb ((r * 2 + if b 1 0) % 2) 1 ≡ b
bit_low r true = let e : (r * 2 + 1) % 2 ≡ 1 = omega arith in rw e
bit_low r false = let e : (r * 2 + 0) % 2 ≡ 0 = omega arith in rw e

bit_high : (r : ℕ) (b : Bool) → (r * 2 + if b 1 0) / 2 ≡ r
bit_high r true = omega arith
bit_high r false = omega arith

-- a word with a bit below those of another
abbrev pub below : ℕ → Bool → ℕ
below l a = l % 2147483648 * 2 + if a 1 0

pub seen_pushed : (l w x n : ℕ) (a b d : Bool) (l' w' x' : ℕ) → l' ≡ below l a → w' ≡ below w b → x' ≡ below x d → n < stack_most
    → seen_in l' w' x' (n + 1) ≡ record { next_step = a; weights = b; forbids = d } ∷ seen_in l w x n
unfolding seen_in
seen_pushed l w x n a b d l' w' x' e f g h =
    let s : n + (31 - n) ≡ 31 = omega arith in
    let k : seen_in (l % 2147483648) (w % 2147483648) (x % 2147483648) n ≡ seen_in l w x n = ap (λ (m : ℕ). seen_in (l % 2 ^ m) (w % 2 ^ m) (x % 2 ^ m) n) (sym s) ∙ seen_kept n (31 - n) l w x in
    rw (add-one, e, f, g)
    ((λ i. record { next_step = bit_low (l % 2147483648) a i; weights = bit_low (w % 2147483648) b i; forbids = bit_low (x % 2147483648) d i } ∷ seen_in
    (bit_high (l % 2147483648) a i) (bit_high (w % 2147483648) b i) (bit_high (x % 2147483648) d i) n)
    ∙ ap (λ (r : List Facts). record { next_step = a; weights = b; forbids = d } ∷ r) k)

pub seen_popped : (l w x n : ℕ) → 0 < n → seen_in (l / 2) (w / 2) (x / 2) (n - 1) ≡ drop 1 (seen_in l w x n)
unfolding seen_in
seen_popped l w x zero h = absurd (omega arith)
seen_popped l w x (suc n) h = let e : suc n - 1 ≡ n = omega arith in rw e

pub seen_none : (l w x n : ℕ) → n ≤ 0 → seen_in l w x n ≡ drop 1 (seen_in l w x n)
unfolding seen_in
seen_none l w x zero h = refl
seen_none l w x (suc n) h = absurd (omega arith)

pub seen_top : (l w x n : ℕ) → 0 < n → top (seen_in l w x n) ≡ record { next_step = eqb (l % 2) 1; weights = eqb (w % 2) 1; forbids = eqb (x % 2) 1 }
unfolding seen_in
seen_top l w x zero h = absurd (omega arith)
seen_top l w x (suc n) h = refl

-- the facts of a choice, of its test's and its branches'
abbrev choice : Bool → Facts → Facts → Facts
choice b h l = record { next_step = or b (or h.next_step l.next_step); weights = h.weights && l.weights; forbids = or h.forbids l.forbids }

-- "takes low, then high, off the stack and pushes the choice"
pub joined_tops : (b : Bool) (K H U : List Facts) → H ≡ drop 1 K → U ≡ drop 1 H → 2 ≤ length K → choice b (top H) (top K) ∷ U ≡ joined b K
unfolding joined
joined_tops b [] H U e f h = absurd (omega arith)
joined_tops b (x ∷ []) H U e f h = absurd (omega arith)
joined_tops b (x ∷ y ∷ K) H U e f h = rw (f, e)

module _ (b : Bool) (t h u : Seen) (e : seen h ≡ drop 1 (seen t)) (f : seen u ≡ drop 1 (seen h)) where
  length_of : (v : Seen) → length (seen v) ≡ v.len
  length_of v = seen_length v.later v.weights v.forbids v.len

  pub seen_joined : (x y z : Bool) (R : List Facts) → x ≡ or b (or (eqb (h.later % 2) 1) (eqb (t.later % 2) 1)) → y ≡ (eqb (h.weights % 2) 1 && eqb (t.weights % 2) 1)
      → z ≡ or (eqb (h.forbids % 2) 1) (eqb (t.forbids % 2) 1)
      → (u.len < stack_most → R ≡ record { next_step = x; weights = y; forbids = z } ∷ seen u) → 2 ≤ t.len → t.len ≤ stack_most → R ≡ joined b (seen t)
  seen_joined x y z R p q s r m k =
      let i : h.len ≡ t.len - 1 = sym (length_of h) ∙ ap length e ∙ length-drop 1 (seen t) ∙ ap (λ (n : ℕ). n - 1) (length_of t) in
      let j : u.len ≡ h.len - 1 = sym (length_of u) ∙ ap length f ∙ length-drop 1 (seen h) ∙ ap (λ (n : ℕ). n - 1) (length_of h) in
      let v = seen_top t.later t.weights t.forbids t.len (omega arith) in
      let w = seen_top h.later h.weights h.forbids h.len (omega arith) in
      let c : record { next_step = x; weights = y; forbids = z } ≡ choice b (top (seen h)) (top (seen t)) = (λ n. record { next_step = p n; weights = q n; forbids = s n }) ∙ ap₂ (choice b) (sym w) (sym v) in
      r (omega arith) ∙ ap (λ (g : Facts). g ∷ seen u) c ∙ joined_tops b (seen t) (seen h) (seen u) e f (omega (arith, length_of t))

-- the code's "or" is document 01's
pub or_is : (a b : Bool) → (a || b) ≡ or a b
or_is true b = refl
or_is false b = refl

pub or_three : (a b c : Bool) → (a || b || c) ≡ or a (or b c)
or_three true b c = refl
or_three false b c = or_is b c

pub and_three : (a b c : Bool) → (a && b && c) ≡ (a && (b && c))
and_three true b c = refl
and_three false b c = refl
