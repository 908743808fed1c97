-- The equality test of nodes, and the first index at which a test holds.
use mathlib.Core.Path.{◌≡◌, refl, sym, ap, ◌∙◌}
use mathlib.Core.Bool.{Bool, true, false, cond, ◌&&◌}
use mathlib.Core.Logic.{◌⊎◌, inl, inr, ⊎_elim}
use Prim.Native.Nat.{ℕ, zero, suc, ◌+◌, ◌≤◌, ◌<◌}
use native.Mathlib.Omega.{arith}
use borrow.Author.Tests.{lt-ltb, le-ltb, ltb-true, ltb-false}
use lib.Dec.{ltb}
use lib.IntN.{ℤ}
use Rattle.whole.specs.LinearsLaws.{eq_list_true, eq_list_refl}
pub use Rattle.whole.specs.LinearsLaws.{eq_ℤ_true, eq_ℤ_refl}
use Rattle.table.specs.declared.Node.{Node}
use mathlib.Core.List.{List}
use Rattle.table.specs.declared.Stop.TheVariants.{Full}
use Rattle.table.specs.Table.{Answer, made, halted, put_at, first_node, intern_answer, intern_words, eq_ℤ, eq_node, first_at, SameNode, same, other}

clash : {X : Type 0} → false ≡ true → X
clash e = absurd (let z : ◌≡◌ {A = ℕ} 0 1 = cc in omega arith)

both : (a b : Bool) → (a && b) ≡ true → (a ≡ true) × (b ≡ true)
both true b e = (refl, e)
both false b e = clash e

pub eqN_true : (x y : Node) → eq_node x y ≡ true → x ≡ y
unfolding eq_node
eqN_true x y e =
    let b₁ = both (eq_ℤ x.kind y.kind) _ e in
    let b₂ = both (eq_ℤ x.high y.high) _ b₁.1 in
    let b₃ = both (eq_ℤ x.low y.low) _ b₂.1 in
    λ i. record {
      kind = eq_ℤ_true x.kind y.kind b₁.0 i;
      n = eq_list_true x.n y.n b₃.1 i;
      high = eq_ℤ_true x.high y.high b₂.0 i;
      low = eq_ℤ_true x.low y.low b₃.0 i;
    }

pub eqN_refl : (x : Node) → eq_node x x ≡ true
unfolding eq_node
eqN_refl x = simp (eq_ℤ_refl, eq_list_refl)

pub eqN_false : (x y : Node) → (x ≡ y → ⊥) → eq_node x y ≡ false
eqN_false x y n = go (eq_node x y) refl
  where
    go : (b : Bool) → eq_node x y ≡ b → eq_node x y ≡ false
    go true e = absurd (n (eqN_true x y e))
    go false e = e

-- what the code's test says
pub hit : {x y z : Node} {r : Bool} → x ≡ z → SameNode x y r → r ≡ true → eq_node z y ≡ true
hit {x} {y} {z} g (same e) t = ap (λ (w : Node). eq_node w y) (sym g ∙ e) ∙ eqN_refl y
hit g (other n) t = clash t

pub miss : {x y z : Node} {r : Bool} → x ≡ z → SameNode x y r → r ≡ false → eq_node z y ≡ false
miss g (same e) t = clash (sym t)
miss {x} {y} {z} g (other n) t = eqN_false z y (λ e. n (g ∙ e))

-- nothing below n
pub first_none : (p : ℕ → Bool) (n : ℕ) → ((k : ℕ) → k < n → p k ≡ false) → first_at p n ≡ n
unfolding first_at
first_none p zero h = refl
first_none p (suc n) h =
    let ih : first_at p n ≡ n = first_none p n (λ k q. h k (omega arith)) in
    let t : ltb (first_at p n) n ≡ false = le-ltb (first_at p n) n (omega arith) in
    simp (t, h n (omega arith))

pub split : (n i : ℕ) → i < suc n → (i < n) ⊎ (i ≡ n)
split n i q = go (ltb i n) refl
  where
    go : (b : Bool) → ltb i n ≡ b → (i < n) ⊎ (i ≡ n)
    go true e = inl (ltb-true i n e)
    go false e = let z = ltb-false i n e in inr (omega arith)

pub first_found : (p : ℕ → Bool) (n i : ℕ) → i < n → p i ≡ true → ((k : ℕ) → k < i → p k ≡ false) → first_at p n ≡ i
unfolding first_at
first_found p zero i q e h = absurd (omega arith)
first_found p (suc n) i q e h = ⊎_elim (λ r. below (first_found p n i r e h) r) here (split n i q)
  where
    below : first_at p n ≡ i → i < n → first_at p (suc n) ≡ i
    below ih r =
        let t : ltb (first_at p n) n ≡ true = lt-ltb (first_at p n) n (omega arith) in
        rw (t) ih

    here : i ≡ n → first_at p (suc n) ≡ i
    here r =
        let ih : first_at p n ≡ n = first_none p n (λ k q. h k (omega arith)) in
        let t : ltb (first_at p n) n ≡ false = le-ltb (first_at p n) n (omega arith) in
        let e' : p n ≡ true = ap p (sym r) ∙ e in
        rw (t, e') (sym r)

-- the three outcomes of a look-up or append, r being the index that the scan found
module _ (cap : ℕ) (l : List ℤ) (n : ℕ) (x : Node) (r : ℕ) (e : r ≡ first_node l x n) where
  -- by what the two tests say: the node is there, and there is room for it
  abbrev answer : Bool → Bool → Answer
  answer a b = cond a (made (first_node l x n) n) (cond b (made n (n + 1)) (halted Full n))

  abbrev written : Bool → Bool → List ℤ
  written a b = cond a l (cond b (put_at l n x) l)

  pub intern_old : r < n → (◌≡◌ {A = Answer} (made r n) (intern_answer cap l n x)) × (l ≡ intern_words cap l n x)
  unfolding intern_answer intern_words
  intern_old h =
      let t : ltb (first_node l x n) n ≡ true = lt-ltb (first_node l x n) n (omega arith) in
      (rw t (λ i. made (e i) n), rw t)

  pub intern_new : n ≤ r → n < cap → (◌≡◌ {A = Answer} (made n (n + 1)) (intern_answer cap l n x)) × (put_at l n x ≡ intern_words cap l n x)
  unfolding intern_answer intern_words
  intern_new h k =
      let t : ltb (first_node l x n) n ≡ false = le-ltb (first_node l x n) n (omega arith) in
      let u : ltb n cap ≡ true = lt-ltb n cap k in
      (sym (λ i. answer (t i) (u i)), sym (λ i. written (t i) (u i)))

  pub intern_full : n ≤ r → cap ≤ n → (◌≡◌ {A = Answer} (halted Full n) (intern_answer cap l n x)) × (l ≡ intern_words cap l n x)
  unfolding intern_answer intern_words
  intern_full h k =
      let t : ltb (first_node l x n) n ≡ false = le-ltb (first_node l x n) n (omega arith) in
      let u : ltb n cap ≡ false = le-ltb n cap k in
      (sym (λ i. answer (t i) (u i)), sym (λ i. written (t i) (u i)))

-- the index found is one at which the test holds
pub first_hit : (p : ℕ → Bool) (n : ℕ) → first_at p n < n → p (first_at p n) ≡ true
unfolding first_at
first_hit p zero h = absurd (omega arith)
first_hit p (suc n) h = go (ltb (first_at p n) n) refl (first_hit p n) (p n) refl h
  where
    go : (b : Bool) → ltb (first_at p n) n ≡ b → (first_at p n < n → p (first_at p n) ≡ true) → (d : Bool) → p n ≡ d → first_at p (suc n) < suc n → p (first_at p (suc n)) ≡ true
    go true e ih d ed h = rw e (ih (ltb-true (first_at p n) n e))
    go false e ih true ed h = rw (e, ed) ed
    go false e ih false ed h = absurd (let z : cond (ltb (first_at p n) n) (first_at p n) (cond (p n) n (suc n)) ≡ suc n = rw (e, ed) in omega arith)

-- nothing was found: the test fails at each index
pub first_out : (p : ℕ → Bool) (n : ℕ) → n ≤ first_at p n → (k : ℕ) → k < n → p k ≡ false
unfolding first_at
first_out p zero h k q = absurd (omega arith)
first_out p (suc n) h k q = go (ltb (first_at p n) n) refl (first_out p n) (p n) refl h
  where
    go : (b : Bool) → ltb (first_at p n) n ≡ b → (n ≤ first_at p n → (k : ℕ) → k < n → p k ≡ false) → (d : Bool) → p n ≡ d → suc n ≤ first_at p (suc n) → p k ≡ false
    go true e ih d ed h = absurd (let y = ltb-true (first_at p n) n e in let z : cond (ltb (first_at p n) n) (first_at p n) (cond (p n) n (suc n)) ≡ first_at p n = rw e in omega arith)
    go false e ih true ed h = absurd (let z : cond (ltb (first_at p n) n) (first_at p n) (cond (p n) n (suc n)) ≡ n = rw (e, ed) in omega arith)
    go false e ih false ed h = ⊎_elim (λ r. ih (ltb-false (first_at p n) n e) k r) (λ r. ap p r ∙ ed) (split n k q)
