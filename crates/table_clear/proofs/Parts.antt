-- What stands in a list with a part of it wiped, and a store a turn.
use mathlib.Core.Path.{◌≡◌, refl, sym, ap, ap₂, ◌∙◌}
use mathlib.Core.List.{List, [], ◌∷◌, ◌++◌, append_assoc, append-nil}
use Prim.Native.Nat.{ℕ, suc, ◌+◌, ◌-◌, ◌≤◌, ◌<◌}
use native.Mathlib.Numerals.{add-one}
use native.Mathlib.Omega.{arith}
use lib.ListN.{length, get_or, set, take, drop, replicate, length-append, length-replicate, length-drop, take-append-drop, replicate-append-replicate, get_or-append, get_or-replicate, drop_of_length-le}
use lib.Seq.{length-take-le, drop-cons, set_at, get_or-append-add, get_or-drop, get_or-take}
use Rattle.table_clear.specs.Wipe.{wiped}

-- the part is wiped up to i
pub record Wiped {A : Type 0} (z : A) (l : List A) (f i t : ℕ) (l' : List A) : Type 0 where
  pub is : l' ≡ wiped z f i l
  pub from : f ≤ i
  pub upto : i ≤ t
  pub len : length l' ≡ length l

module _ {A : Type 0} (z : A) (l : List A) (f : ℕ) where
  pub wiped_length : (i : ℕ) → f ≤ i → i ≤ length l → length (wiped z f i l) ≡ length l
  wiped_length i p q =
      let a = length-append (take f l) (replicate (i - f) z ++ drop i l) in
      let b = length-append (replicate (i - f) z) (drop i l) in
      let c = length-take-le f l (omega arith) in
      let d = length-replicate (i - f) z in
      let e = length-drop i l in omega arith

  none_wiped : wiped z f f l ≡ l
  none_wiped = ap (λ (k : ℕ). take f l ++ (replicate k z ++ drop f l)) (let q : f - f ≡ 0 = omega arith in q) ∙ take-append-drop f l

  pub begins : (t : ℕ) → f ≤ t → Wiped z l f f t l
  begins t h = record { is = sym none_wiped; from = omega arith; upto = h; len = refl }

  more_wiped : (i : ℕ) → f ≤ i → i < length l → set (wiped z f i l) i z ≡ wiped z f (i + 1) l
  more_wiped i p q =
      ap (λ (t : List A). set t i z) (sym (append_assoc (take f l) (replicate (i - f) z) (drop i l)) ∙ ap (λ (t : List A). take f l ++ replicate (i - f) z ++ t) (drop-cons l i z q))
      ∙ (set_at (take f l ++ replicate (i - f) z) (get_or l i z) (drop (suc i) l) z i
      (let a = length-append (take f l) (replicate (i - f) z) in let c = length-take-le f l (omega arith) in let d = length-replicate (i - f) z in omega arith)
      ∙ (append_assoc (take f l) (replicate (i - f) z) (z ∷ drop (suc i) l)
      ∙ ap (λ (t : List A). take f l ++ t) (sym (append_assoc (replicate (i - f) z) (z ∷ []) (drop (suc i) l))
      ∙ ap₂ (λ (s t : List A). s ++ t) (replicate-append-replicate (i - f) 1 z ∙ ap (λ (k : ℕ). replicate k z) (let e : i - f + 1 ≡ i + 1 - f = omega arith in e)) (ap (λ (k : ℕ). drop k l) (sym (add-one i))))))

  pub more : {i t : ℕ} {l' : List A} → Wiped z l f i t l' → t ≤ length l → i < t → Wiped z l f (i + 1) t (set l' i z)
  more {i} {t} {l'} W h q =
      let e : set l' i z ≡ wiped z f (i + 1) l = ap (λ (t : List A). set t i z) W.is ∙ more_wiped i W.from (omega arith) in
      record { is = e; from = let p = W.from in omega arith; upto = omega arith; len = ap length e ∙ wiped_length (i + 1) (let p = W.from in omega arith) (omega arith) }

  pub ends : {i t : ℕ} {l' : List A} → Wiped z l f i t l' → t ≤ i → l' ≡ wiped z f t l
  ends {i} {t} W q = W.is ∙ ap (λ (k : ℕ). wiped z f k l) (let u = W.upto in let e : i ≡ t = omega arith in e)

  -- wiped to its end
  pub to_end : {l' : List A} → l' ≡ wiped z f (length l) l → l' ≡ take f l ++ replicate (length l - f) z
  to_end e = e ∙ ap (λ (t : List A). take f l ++ t) (ap (λ (t : List A). replicate (length l - f) z ++ t) (drop_of_length-le l (let q : length l ≤ length l = omega arith in q)) ∙ append-nil (replicate (length l - f) z))

  -- ---- what is read
  module _ (t : ℕ) {l' : List A} (e : l' ≡ wiped z f t l) (p : f ≤ t) (q : t ≤ length l) where
    pub same_length : length l' ≡ length l
    same_length = ap length e ∙ wiped_length t p q

    head_length : length (take f l) ≡ f
    head_length = length-take-le f l (omega arith)

    part_length : length (replicate (t - f) z) ≡ t - f
    part_length = length-replicate (t - f) z

    -- before the part
    pub before : (d : A) (i : ℕ) → i < f → get_or l' i d ≡ get_or l i d
    before d i h = ap (λ (x : List A). get_or x i d) e ∙ (get_or-append (take f l) (replicate (t - f) z ++ drop t l) d i (let a = head_length in omega arith) ∙ get_or-take f l i d h)

    behind : (d : A) (i : ℕ) → f ≤ i → get_or l' i d ≡ get_or (replicate (t - f) z ++ drop t l) (i - f) d
    behind d i h =
        let a = head_length in
        ap (λ (x : List A). get_or x i d) e
        ∙ (ap (λ (k : ℕ). get_or (wiped z f t l) k d) (let g : i ≡ length (take f l) + (i - f) = omega arith in g)
        ∙ get_or-append-add (take f l) (replicate (t - f) z ++ drop t l) (i - f) d)

    -- in it
    pub within : (d : A) (i : ℕ) → f ≤ i → i < t → get_or l' i d ≡ z
    within d i h k = behind d i h ∙ (get_or-append (replicate (t - f) z) (drop t l) d (i - f) (let b = part_length in omega arith) ∙ get_or-replicate (t - f) (i - f) z d (omega arith))

    -- behind it
    pub after : (d : A) (i : ℕ) → t ≤ i → get_or l' i d ≡ get_or l i d
    after d i h =
        let b = part_length in
        behind d i (omega arith)
        ∙ (ap (λ (k : ℕ). get_or (replicate (t - f) z ++ drop t l) k d) (let g : i - f ≡ length (replicate (t - f) z) + (i - t) = omega arith in g)
        ∙ (get_or-append-add (replicate (t - f) z) (drop t l) (i - t) d ∙ (get_or-drop t l (i - t) d ∙ ap (λ (k : ℕ). get_or l k d) (let g : t + (i - t) ≡ i = omega arith in g))))
