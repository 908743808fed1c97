-- Laws of bytes written into a buffer: one more byte, more bytes behind them, and bytes written into a part that was lent.
use mathlib.Core.Path.{◌≡◌, sym, ap, ◌∙◌, subst}
use mathlib.Core.List.{List, [], ◌∷◌, ◌++◌, append_assoc, append-nil}
use Prim.Native.Nat.{ℕ, suc, ◌+◌, ◌-◌, ◌≤◌, ◌<◌}
use native.Mathlib.Omega.{arith}
use native.Mathlib.Numerals.{add-one}
use lib.ListN.{length, take, drop, set, get_or, length-append, length-drop, drop_of_length-le, take-append-drop}
use lib.Seq.{drop-cons, drop-drop, set_at, set_split, take_at, drop_at, take_all, length-take-le, paste}
use borrow.Rule.Slice.PartMut.{put_mid}
use Rattle.theory.specs.Listing.{written}
use Rattle.text_decimal.specs.Put.{PutAt}

-- the buffer in two parts, the first up to the end of what is written
split : (l b : List ℕ) (at : ℕ) → written l at b ≡ (take at l ++ b) ++ drop (at + length b) l
unfolding written
split l b at = sym (append_assoc (take at l) b (drop (at + length b) l))

head : (l b : List ℕ) (at : ℕ) → at ≤ length l → length (take at l ++ b) ≡ at + length b
head l b at h = length-append (take at l) b ∙ ap (λ (n : ℕ). n + length b) (length-take-le at l h)

pub written_length : (l b : List ℕ) (at : ℕ) → at + length b ≤ length l → length (written l at b) ≡ length l
written_length l b at h =
    let e : length (take at l ++ b) ≡ at + length b = head l b at (omega arith) in
    ap length (split l b at)
    ∙ length-append (take at l ++ b) (drop (at + length b) l)
    ∙ omega (arith, e, length-drop (at + length b) l)

-- a copy of all of a list
pub pasted : (l b : List ℕ) (at n : ℕ) → n ≡ length b → paste l at b n ≡ written l at b
pasted l b at n e =
    (λ i. (take at l ++ take (e i) b) ++ drop (at + e i) l)
    ∙ ap (λ (x : List ℕ). (take at l ++ x) ++ drop (at + length b) l) (take_all (length b) b (omega arith))
    ∙ sym (split l b at)

byte_more : (l b : List ℕ) (at n v : ℕ) → n ≡ at + length b → n < length l → set (written l at b) n v ≡ written l at (b ++ (v ∷ []))
byte_more l b at n v e h =
    let k : suc n ≡ at + length (b ++ (v ∷ [])) = omega (arith, length-append b (v ∷ [])) in
    ap (λ (x : List ℕ). set x n v) (split l b at)
    ∙ ap (λ (x : ℕ). set ((take at l ++ b) ++ drop x l) n v) (sym e)
    ∙ ap (λ (x : List ℕ). set ((take at l ++ b) ++ x) n v) (drop-cons l n 0 h)
    ∙ set_at (take at l ++ b) (get_or l n 0) (drop (suc n) l) v n (head l b at (omega arith) ∙ sym e)
    ∙ sym (append_assoc (take at l ++ b) (v ∷ []) (drop (suc n) l))
    ∙ (λ i. append_assoc (take at l) b (v ∷ []) i ++ drop (k i) l)
    ∙ sym (split l (b ++ (v ∷ [])) at)

byte_first : (l : List ℕ) (at v : ℕ) → at < length l → set l at v ≡ written l at (v ∷ [])
unfolding written
byte_first l at v h = set_split l at v h ∙ ap (λ (n : ℕ). take at l ++ (v ∷ drop n l)) (sym (add-one at))

pub put_first : (l b : List ℕ) (at v : ℕ) → at < length l → b ≡ v ∷ [] → PutAt l at b (at + 1) (set l at v)
put_first l b at v h e = record { behind = ap (λ (x : List ℕ). at + length x) (sym e); left = byte_first l at v h ∙ ap (written l at) (sym e) }

pub put_next : (l b b' after : List ℕ) (at n v : ℕ) → PutAt l at b n after → n < length l → b' ≡ b ++ (v ∷ []) → PutAt l at b' (n + 1) (set after n v)
put_next l b b' after at n v p h e =
    let c = p.behind in
    let k : n + 1 ≡ at + length (b ++ (v ∷ [])) = omega (arith, length-append b (v ∷ [])) in
    record {
      behind = k ∙ ap (λ (x : List ℕ). at + length x) (sym e);
      left = ap (λ (x : List ℕ). set x n v) p.left ∙ byte_more l b at n v c h ∙ ap (written l at) (sym e);
    }

-- nothing written
pub none : (l : List ℕ) (at : ℕ) → PutAt l at [] at l
unfolding written
none l at =
    let e : at + 0 ≡ at = omega arith in
    record { behind = omega arith; left = sym (ap (λ (n : ℕ). take at l ++ drop n l) e ∙ take-append-drop at l) }

-- bytes behind bytes
pub then : {l l₁ l₂ b c : List ℕ} {at n m : ℕ} → at ≤ length l → PutAt l at b n l₁ → PutAt l₁ n c m l₂ → PutAt l at (b ++ c) m l₂
unfolding written
then {l} {l₁} {l₂} {b} {c} {at} {n} {m} h p q =
    let a : List ℕ = take at l ++ b in
    let r : List ℕ = drop (at + length b) l in
    let e : length a ≡ n = head l b at h ∙ sym p.behind in
    let w : l₁ ≡ a ++ r = p.left ∙ split l b at in
    let t : take n l₁ ≡ a = ap (take n) w ∙ take_at a r n e in
    let d : drop n l₁ ≡ r = ap (drop n) w ∙ drop_at a r n e in
    let k : at + length b + length c ≡ at + length (b ++ c) = omega (arith, length-append b c) in
    let f : drop (n + length c) l₁ ≡ drop (at + length (b ++ c)) l =
    sym (drop-drop (length c) n l₁)
    ∙ ap (drop (length c)) d
    ∙ drop-drop (length c) (at + length b) l
    ∙ ap (λ (x : ℕ). drop x l) k in
    record {
      behind = omega (arith, p.behind, q.behind, length-append b c);
      left =
          q.left
          ∙ (λ i. t i ++ (c ++ f i))
          ∙ append_assoc (take at l) b (c ++ drop (at + length (b ++ c)) l)
          ∙ ap (λ (x : List ℕ). take at l ++ x) (sym (append_assoc b c (drop (at + length (b ++ c)) l)));
    }

pub rename : {l l' b c : List ℕ} {at n : ℕ} → b ≡ c → PutAt l at b n l' → PutAt l at c n l'
rename {l} {l'} {at = at} {n = n} e p = subst (λ (x : List ℕ). PutAt l at x n l') e p

-- a part that was lent to the end, with bytes written from its front
pub lent :
    (l b part : List ℕ) (at n : ℕ) →
    at ≤ length l →
    PutAt (take (length l - at) (drop at l)) 0 b n part →
    PutAt l at b (at + n) (put_mid at (length l - at) l part)
unfolding written
lent l b part at n h p =
    let k : length (drop at l) ≡ length l - at = length-drop at l in
    let t : take (length l - at) (drop at l) ≡ drop at l = take_all (length l - at) (drop at l) (omega arith) in
    let o : length (drop at l) ≤ length l - at = omega arith in
    let d : drop (length l - at) (drop at l) ≡ [] = drop_of_length-le (drop at l) o in
    let e : 0 + length b ≡ length b = omega arith in
    record {
      behind = omega (arith, p.behind);
      left =
          (λ i. take at l ++ (p.left i ++ d i))
          ∙ ap (λ (x : List ℕ). take at l ++ x) (append-nil (b ++ drop (0 + length b) (take (length l - at) (drop at l))))
          ∙ (λ i. take at l ++ (b ++ drop (e i) (t i)))
          ∙ ap (λ (x : List ℕ). take at l ++ (b ++ x)) (drop-drop (length b) at l);
    }
