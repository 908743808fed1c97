-- Bytes without the spaces at their end, and bytes that are the same.
use Rattle.std.specs.Prelude.{◌≡◌, refl, ◌⊎◌, Bool, List, [], ◌∷◌, ◌++◌, ℕ, zero, suc, ◌+◌, ◌-◌, ◌≤◌, ◌<◌, T, eqb, length, get_or, take, replicate}
use Rattle.std.proofs.Common.{sym, ap, ◌∙◌, inl, inr, ⊎_elim, append_assoc, append-nil, arith, eq-eqb, ne_eqb, eqb→eq, length-append, take_at, get_or-take, get_or-append-add, length-take-le}
use Rattle.std.proofs.Math.Dec.{eqb_refl}
use Rattle.std.proofs.lemmas.List.{length-replicate, get_or-replicate, replicate-append-replicate}
use Rattle.std.proofs.Math.ListN.{get_or-append}
use Rattle.std.proofs.Math.Seq.{take-length}
use Rattle.whole.specs.Cases.{if, both, and_in}
use Rattle.theory.specs.Name.{trimmed}
use Rattle.theory.proofs.laws.Name.{trimmed_most, trimmed_spaces, trimmed_last}
use Rattle.model_find.specs.Find.{trim, same_name}
use Rattle.model_find.specs.Statements.{Sent}

-- ---- the same bytes

pub same_is : (x y : List ℕ) → T (same_name x y) → x ≡ y
unfolding same_name
same_is [] [] t = refl
same_is [] (b ∷ y) t = absurd t
same_is (a ∷ x) [] t = absurd t
same_is (a ∷ x) (b ∷ y) t = let d = both (eqb a b) (same_name x y) t in λ i. eqb→eq a b d.0 i ∷ same_is x y d.1 i

pub same_self : (x : List ℕ) → T (same_name x x)
unfolding same_name
same_self [] = tt
same_self (a ∷ x) = and_in (eqb a a) (same_name x x) (eqb_refl a) (same_self x)

-- ---- spaces at the end

-- it does not end in a space
abbrev pub EndsInText : List ℕ → Type 0
EndsInText x = (x ≡ []) ⊎ (get_or x (length x - 1) 0 ≡ 0x20 → ⊥)

-- spaces behind n bytes are dropped
spaces_drop : (l : List ℕ) (n j : ℕ) → ((i : ℕ) → i < j → get_or l (n + i) 0 ≡ 0x20) → trimmed l (n + j) ≡ trimmed l n
unfolding trimmed
spaces_drop l n zero f = let e : n + 0 ≡ n = omega arith in ap (trimmed l) e
spaces_drop l n (suc j) f =
    let e : n + suc j ≡ suc (n + j) = omega arith in
    ap (trimmed l) e
    ∙ ap (λ (b : Bool). if b (trimmed l (n + j)) (suc (n + j))) (eq-eqb (get_or l (n + j) 0) 0x20 (f j (omega arith)))
    ∙ spaces_drop l n j (λ i h. f i (omega arith))

-- a byte that is no space stays
stays : (l : List ℕ) (n : ℕ) → (n ≡ 0) ⊎ (get_or l (n - 1) 0 ≡ 0x20 → ⊥) → trimmed l n ≡ n
unfolding trimmed
stays l zero d = refl
stays l (suc n) d = ⊎_elim
    (λ z. absurd (omega arith))
    (λ f.
    let e : suc n - 1 ≡ n = omega arith in
    ap (λ (b : Bool). if b (trimmed l n) (suc n)) (ne_eqb (get_or l n 0) 0x20 (λ z. f (ap (λ (i : ℕ). get_or l i 0) e ∙ z))))
    d

-- the bytes and any spaces behind them
pub trim_spaces : (x : List ℕ) (k : ℕ) → EndsInText x → trim (x ++ replicate k 0x20) ≡ x
unfolding trim
trim_spaces x k d =
    let l = x ++ replicate k 0x20 in
    let n = length x in
    let whole : length l ≡ n + k = length-append x (replicate k 0x20) ∙ ap (λ (j : ℕ). n + j) (length-replicate k 0x20) in
    let spaces = spaces_drop l n k (λ i h. get_or-append-add x (replicate k 0x20) i 0 ∙ get_or-replicate k i 0x20 0 h) in
    let front = stays l n (⊎_elim (λ e. inl (ap length e)) (λ f. by_length n refl f) d) in
    ap (λ (j : ℕ). take j l) (ap (trimmed l) whole ∙ spaces ∙ front) ∙ take_at x (replicate k 0x20) n refl
  where
    by_length : (n : ℕ) → length x ≡ n → (get_or x (length x - 1) 0 ≡ 0x20 → ⊥) → (length x ≡ 0) ⊎ (get_or (x ++ replicate k 0x20) (length x - 1) 0 ≡ 0x20 → ⊥)
    by_length zero e f = inl e
    by_length (suc n) e f = inr (λ z. f (sym (get_or-append x (replicate k 0x20) 0 (length x - 1) (omega arith)) ∙ z))

pub sent_is : {y x : List ℕ} → Sent y x → trim y ≡ x
sent_is {y} {x} s = ap trim s.bytes ∙ trim_spaces x s.spaces s.last

-- the first bytes, as many as are left of n, do not end in a space
ends_first : (l : List ℕ) (n : ℕ) → n ≤ length l → EndsInText (take (trimmed l n) l)
ends_first l n h =
    let k = trimmed l n in
    let size = length-take-le k l (omega (arith, trimmed_most l n)) in
    ⊎_elim
    (λ z. inl (ap (λ (j : ℕ). take j l) z))
    (λ f. by_size k refl size f)
    (trimmed_last l n)
  where
    by_size : (k : ℕ) → k ≡ trimmed l n → length (take (trimmed l n) l) ≡ trimmed l n → (get_or l (trimmed l n - 1) 0 ≡ 0x20 → ⊥) → EndsInText (take (trimmed l n) l)
    by_size zero e size f = inl (ap (λ (j : ℕ). take j l) (sym e))
    by_size (suc k) e size f = inr (λ z. f (sym (get_or-take (trimmed l n) l (trimmed l n - 1) 0 (omega arith)) ∙ ap (λ (j : ℕ). get_or (take (trimmed l n) l) (j - 1) 0) (sym size) ∙ z))

pub trim_sent : (y : List ℕ) → Sent y (trim y)
unfolding trim
trim_sent y = record {
  spaces = length y - trimmed y (length y);
  bytes = sym (trimmed_spaces y (length y) (omega arith) ∙ take-length y);
  last = ends_first y (length y) (omega arith);
}

-- the first n bytes of some, without the spaces at their end
pub trim_first : (l : List ℕ) (n : ℕ) → n ≤ length l → trim (take n l) ≡ take (trimmed l n) l
trim_first l n h =
    ap trim (sym (trimmed_spaces l n h)) ∙ trim_spaces (take (trimmed l n) l) (n - trimmed l n) (ends_first l n h)

-- bytes that do not end in a space are left as they are
pub trim_ends : (x : List ℕ) → EndsInText x → trim x ≡ x
trim_ends x d = ap trim (sym (append-nil x)) ∙ trim_spaces x 0 d

pub trim_more : (y : List ℕ) (k : ℕ) → trim (y ++ replicate k 0x20) ≡ trim y
trim_more y k =
    let s = trim_sent y in
    ap (λ (l : List ℕ). trim (l ++ replicate k 0x20)) s.bytes
    ∙ ap trim (append_assoc (trim y) (replicate s.spaces 0x20) (replicate k 0x20) ∙ ap (λ (l : List ℕ). trim y ++ l) (replicate-append-replicate s.spaces k 0x20))
    ∙ trim_spaces (trim y) (s.spaces + k) s.last

pub trim_none : (k : ℕ) → trim (replicate k 0x20) ≡ []
trim_none k = trim_spaces [] k (inl refl)
