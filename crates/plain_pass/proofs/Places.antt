-- Each slot has its own place, and a word that is put there stands there alone.
use mathlib.Core.Path.{◌≡◌, refl, sym, ap, ◌∙◌}
use mathlib.Core.Bool.{Bool, true, false}
use mathlib.Core.List.{List}
use Prim.Native.Nat.{ℕ, ◌+◌, ◌-◌, ◌*◌, ◌≤◌, ◌<◌}
use native.Mathlib.Omega.{arith}
use borrow.Author.Tests.{eq-eqb, ne_eqb, eqb-true, eqb-false, ltb-true, ltb-false, leb-true, leb-false}
use lib.Dec.{eqb, leb, ltb}
use lib.ListN.{length, get_or, set, length-set}
use lib.Seq.{set_out, get_or-set_same, get_or-set_other}
use Rattle.whole.specs.Cases.{if, by_eq}
use Rattle.theory.specs.Widths.{levels_most, conditions_most}
use Rattle.theory.specs.Command.{Slot}
use Rattle.plain_pass.specs.Parts.{end_row, slots_each, slots_most, row, place, put}

-- ---- rows

-- the command and the index that a row has
record Back (c i r : ℕ) : Type 0 where
  reward : r ≡ 0 → (c ≡ 0x20) × (i ≡ 0)
  chance : 1 ≤ r → r ≤ conditions_most → (c ≡ 0x21) × (i ≡ r)
  level : conditions_most < r → r < end_row → (c ≡ 0x22) × (i ≡ r - conditions_most)
  ending : r ≡ end_row → (c ≡ 0x23) × (i ≡ 0)

row_back : (c i : ℕ) → row c i < slots_each → Back c i (row c i)
unfolding row
row_back c i = by_eq (eqb i 0) (λ b. alone_or b < slots_each → Back c i (alone_or b))
    (λ z. alone z (eqb c 0x20) (eqb c 0x23) refl refl) (λ z. numbered z (eqb c 0x21) (eqb c 0x22) (ltb conditions_most i) (ltb levels_most i) refl refl refl refl)
  where
    alone_row : Bool → Bool → ℕ
    alone_row a b = if a 0 (if b end_row slots_each)

    numbered_row : Bool → Bool → Bool → Bool → ℕ
    numbered_row d l m n = if d (if m slots_each i) (if l (if n slots_each (conditions_most + i)) slots_each)

    alone_or : Bool → ℕ
    alone_or b = if b (alone_row (eqb c 0x20) (eqb c 0x23)) (numbered_row (eqb c 0x21) (eqb c 0x22) (ltb conditions_most i) (ltb levels_most i))

    alone : eqb i 0 ≡ true → (a b : Bool) → eqb c 0x20 ≡ a → eqb c 0x23 ≡ b → alone_row a b < slots_each → Back c i (alone_row a b)
    alone z true b e₁ e₂ h = record { reward = λ _. (eqb-true c 0x20 e₁, eqb-true i 0 z); chance = λ u _. absurd (omega arith); level = λ u _. absurd (omega arith); ending = λ u. absurd (omega arith) }
    alone z false true e₁ e₂ h = record { reward = λ u. absurd (omega arith); chance = λ _ u. absurd (omega arith); level = λ _ u. absurd (omega arith); ending = λ _. (eqb-true c 0x23 e₂, eqb-true i 0 z) }
    alone z false false e₁ e₂ h = absurd (omega arith)

    numbered : eqb i 0 ≡ false → (d l m n : Bool) → eqb c 0x21 ≡ d → eqb c 0x22 ≡ l → ltb conditions_most i ≡ m → ltb levels_most i ≡ n
        → numbered_row d l m n < slots_each → Back c i (numbered_row d l m n)
    numbered z true l true n e₁ e₂ e₃ e₄ h = absurd (omega arith)
    numbered z true l false n e₁ e₂ e₃ e₄ h =
        let o = eqb-false i 0 z in
        let m = ltb-false conditions_most i e₃ in
        record { reward = λ u. absurd (o u); chance = λ _ _. (eqb-true c 0x21 e₁, refl); level = λ u _. absurd (omega arith); ending = λ u. absurd (omega arith) }
    numbered z false true m true e₁ e₂ e₃ e₄ h = absurd (omega arith)
    numbered z false true m false e₁ e₂ e₃ e₄ h =
        let o = eqb-false i 0 z in
        let n = ltb-false levels_most i e₄ in
        record { reward = λ u. absurd (omega arith); chance = λ u v. absurd (o (omega arith)); level = λ u _. (eqb-true c 0x22 e₂, omega arith); ending = λ u. absurd (omega arith) }
    numbered z false false m n e₁ e₂ e₃ e₄ h = absurd (omega arith)

one_slot : (c i d j r : ℕ) → r < slots_each → Back c i r → Back d j r → (c ≡ d) × (i ≡ j)
one_slot c i d j r h a b = go (eqb r 0) (leb r conditions_most) (ltb r end_row) refl refl refl
  where
    meet : {k n : ℕ} → (c ≡ k) × (i ≡ n) → (d ≡ k) × (j ≡ n) → (c ≡ d) × (i ≡ j)
    meet p q = (p.0 ∙ sym q.0, p.1 ∙ sym q.1)

    go : (z m n : Bool) → eqb r 0 ≡ z → leb r conditions_most ≡ m → ltb r end_row ≡ n → (c ≡ d) × (i ≡ j)
    go true m n e f k = let u = eqb-true r 0 e in meet (a.reward u) (b.reward u)
    go false true n e f k =
        let z = eqb-false r 0 e in
        let u : 1 ≤ r = omega arith in
        let v = leb-true r conditions_most f in
        meet (a.chance u v) (b.chance u v)
    go false false true e f k = let u = leb-false r conditions_most f in let v = ltb-true r end_row k in meet (a.level u v) (b.level u v)
    go false false false e f k = let v = ltb-false r end_row k in let u : r ≡ end_row = omega arith in meet (a.ending u) (b.ending u)

-- ---- places

-- a place below slots_most is that of an action and a row
record Placed (g : Slot) : Type 0 where
  below : row g.command g.index < slots_each
  is : place g ≡ g.action * slots_each + row g.command g.index

placed : (g : Slot) → place g < slots_most → Placed g
unfolding place
placed g = by_eq (ltb (row g.command g.index) slots_each)
    (λ b. if b (g.action * slots_each + row g.command g.index) slots_most < slots_most → Placed g)
    (λ e _. record { below = ltb-true _ _ e; is = ap (λ (b : Bool). if b (g.action * slots_each + row g.command g.index) slots_most) e })
    (λ _ h. absurd (omega arith))

pub one_place : (g h : Slot) → place g < slots_most → place g ≡ place h → g ≡ h
one_place g h u e =
    let p = placed g u in
    let q = placed h (omega arith) in
    let pb = p.below in
    let qb = q.below in
    let pi = p.is in
    let qi = q.is in
    let a : g.action ≡ h.action = omega arith in
    let r : row g.command g.index ≡ row h.command h.index = omega arith in
    let s = one_slot g.command g.index h.command h.index (row g.command g.index) pb (row_back g.command g.index pb) (rw r (row_back h.command h.index qb)) in
    λ i. record { command = s.0 i; action = a i; index = s.1 i }

-- ---- what is put

-- the three ways of `enter`
module _ (g : Slot) (b : ℕ) (t : List ℕ) {p : ℕ} (e : p ≡ place g) where
  as_put : put g b t ≡ if (eqb (get_or t p 0) 0) (set t p b) t
  unfolding put
  as_put = rw (← e)

  pub put_beyond : length t ≤ p → t ≡ put g b t
  put_beyond h = sym (as_put ∙ by_eq (eqb (get_or t p 0) 0) (λ c. if c (set t p b) t ≡ t) (λ _. set_out t p b h) (λ _. refl))

  pub put_new : get_or t p 0 ≡ 0 → set t p b ≡ put g b t
  put_new h = sym (as_put ∙ ap (λ (c : Bool). if c (set t p b) t) (eq-eqb _ 0 h))

  pub put_old : (get_or t p 0 ≡ 0 → ⊥) → t ≡ put g b t
  put_old h = sym (as_put ∙ ap (λ (c : Bool). if c (set t p b) t) (ne_eqb _ 0 h))

pub put_long : (g : Slot) (b : ℕ) (t : List ℕ) → length (put g b t) ≡ length t
unfolding put
put_long g b t = by_eq (eqb (get_or t (place g) 0) 0) (λ c. length (if c (set t (place g) b) t) ≡ length t) (λ _. length-set t (place g) b) (λ _. refl)

-- a place that still has 0 has not been put anything, and is not that of the slot
pub put_open : (g h : Slot) (b : ℕ) (t : List ℕ) → 1 ≤ b → place h < length t → get_or (put g b t) (place h) 0 ≡ 0 → (get_or t (place h) 0 ≡ 0) × (place g ≡ place h → ⊥)
unfolding put
put_open g h b t u v e = go (eqb (get_or t (place g) 0) 0) refl e
  where
    go : (c : Bool) → eqb (get_or t (place g) 0) 0 ≡ c → get_or (if c (set t (place g) b) t) (place h) 0 ≡ 0 → (get_or t (place h) 0 ≡ 0) × (place g ≡ place h → ⊥)
    go true f e = by_eq (eqb (place g) (place h)) (λ _. (get_or t (place h) 0 ≡ 0) × (place g ≡ place h → ⊥))
        (λ q. absurd (let p = eqb-true (place g) (place h) q in let z = sym (get_or-set_same t (place h) b 0 v) ∙ ap (λ (k : ℕ). get_or (set t k b) (place h) 0) (sym p) ∙ e in omega arith))
        (λ q. let p = eqb-false (place g) (place h) q in (sym (get_or-set_other t (place g) (place h) b 0 (λ k. p (sym k))) ∙ e, p))
    go false f e = (e, λ p. eqb-false (get_or t (place g) 0) 0 f (ap (λ (k : ℕ). get_or t k 0) p ∙ e))

-- what stands at a place was there, or is what was put
pub put_is : (P : Slot → ℕ → Type 0) (g : Slot) (b : ℕ) (t : List ℕ) → length t ≤ slots_most → ((h : Slot) → P h (get_or t (place h) 0)) →
    (place g < length t → get_or t (place g) 0 ≡ 0 → P g b) → (h : Slot) → P h (get_or (put g b t) (place h) 0)
unfolding put
put_is P g b t few stands f h = go (eqb (get_or t (place g) 0) 0) refl
  where
    go : (c : Bool) → eqb (get_or t (place g) 0) 0 ≡ c → P h (get_or (if c (set t (place g) b) t) (place h) 0)
    go false e = stands h
    go true e = by_eq (ltb (place g) (length t)) (λ _. P h (get_or (set t (place g) b) (place h) 0))
        (λ q. inside (ltb-true _ _ q)) (λ q. outside (ltb-false _ _ q))
      where
        inside : place g < length t → P h (get_or (set t (place g) b) (place h) 0)
        inside u = by_eq (eqb (place g) (place h)) (λ _. P h (get_or (set t (place g) b) (place h) 0))
            (λ q. let p = eqb-true (place g) (place h) q in let s = one_place g h (omega (arith, u, few)) p in rw (← s, get_or-set_same t (place g) b 0 u) (f u (eqb-true _ 0 e)))
            (λ q. let p = eqb-false (place g) (place h) q in rw (get_or-set_other t (place g) (place h) b 0 (λ k. p (sym k))) (stands h))

        outside : length t ≤ place g → P h (get_or (set t (place g) b) (place h) 0)
        outside u = rw (set_out t (place g) b u) (stands h)
