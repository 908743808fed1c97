-- One swap of the permutation, and all of them.
use mathlib.Core.Path.{◌≡◌, refl, sym, ap, ap₂, ◌∙◌, subst}
use mathlib.Core.Bool.{Bool, true, false}
use mathlib.Core.Logic.{⊎_elim, ◌⊎◌, inl, inr}
use mathlib.Core.List.{List}
use Prim.Native.Nat.{ℕ, zero, suc, ◌+◌, ◌-◌, ◌*◌, ◌≤◌, ◌<◌}
use native.Mathlib.Omega.{arith}
use borrow.Author.Tests.{eqb-true, eqb-false}
use lib.Dec.{eqb}
use lib.IntN.{ℤ}
use lib.ListN.{length, get_or, set, length-set}
use lib.Seq.{get_or-set_same, get_or-set_other}
use Rattle.table.proofs.Look.{split}
use Rattle.table.proofs.Store.{numbers_at, put_length, put_else, put_same}
use Rattle.table.specs.Table.{node_words, node_at, put_at}
use Rattle.table.specs.declared.Node.{Node}
use Rattle.finish_arrange.specs.Arrange.{swap_rows, placed, swap_places, Inverse, Arranged}

same_or : (a b : ℕ) → (a ≡ b) ⊎ (a ≡ b → ⊥)
same_or a b = go (eqb a b) refl
  where
    go : (t : Bool) → eqb a b ≡ t → (a ≡ b) ⊎ (a ≡ b → ⊥)
    go true e = inl (eqb-true a b e)
    go false e = inr (eqb-false a b e)

-- ---- the swap of nodes

module _ (l : List ℤ) (k p : ℕ) (hk : k * node_words + node_words ≤ length l) (hp : p * node_words + node_words ≤ length l) where
  pub swap_length : length (swap_rows l k p) ≡ length l
  unfolding swap_rows
  swap_length = put_length (put_at l k (node_at l p)) p (node_at l k) ∙ put_length l k (node_at l p)

  swap_p : node_at (swap_rows l k p) p ≡ node_at l k
  unfolding swap_rows
  swap_p = put_same (put_at l k (node_at l p)) p (node_at l k) (let e = put_length l k (node_at l p) in omega arith) (numbers_at l k hk)

  swap_k : node_at (swap_rows l k p) k ≡ node_at l p
  unfolding swap_rows
  swap_k = ⊎_elim
      (λ (e : k ≡ p). ap (node_at (swap_rows l k p)) e ∙ (swap_p ∙ ap (node_at l) e))
      (λ (d : k ≡ p → ⊥). put_else (put_at l k (node_at l p)) p (node_at l k) (numbers_at l k hk) k d ∙ put_same l k (node_at l p) hk (numbers_at l p hp))
      (same_or k p)

  swap_else : (j : ℕ) → (j ≡ k → ⊥) → (j ≡ p → ⊥) → node_at (swap_rows l k p) j ≡ node_at l j
  unfolding swap_rows
  swap_else j dk dp = put_else (put_at l k (node_at l p)) p (node_at l k) (numbers_at l k hk) j dp ∙ put_else l k (node_at l p) (numbers_at l p hp) j dk

pub swap_is : (l : List ℤ) (k p : ℕ) {x y : Node} {l₁ l₂ : List ℤ} → x ≡ node_at l k → y ≡ node_at l p → l₁ ≡ put_at l k y → l₂ ≡ put_at l₁ p x → l₂ ≡ swap_rows l k p
unfolding swap_rows
swap_is l k p ex ey e f = f ∙ (ap₂ (λ (t : List ℤ) (v : Node). put_at t p v) e ex ∙ ap (λ (v : Node). put_at (put_at l k v) p (node_at l k)) ey)

-- ---- the swap of words

placed_hit : (w : List ℕ) (q m p : ℕ) → q ≡ suc m → m < length w → get_or (placed w q p) m 0 ≡ p
unfolding placed
placed_hit w zero m p e h = absurd (omega arith)
placed_hit w (suc o) m p e h = let f : o ≡ m = omega arith in ap (λ (z : ℕ). get_or (set w z p) m 0) f ∙ get_or-set_same w m p 0 h

placed_miss : (w : List ℕ) (q m p : ℕ) → (q ≡ suc m → ⊥) → get_or (placed w q p) m 0 ≡ get_or w m 0
unfolding placed
placed_miss w zero m p d = refl
placed_miss w (suc o) m p d = get_or-set_other w o m p 0 (λ e. d (omega arith))

placed_length : (w : List ℕ) (q p : ℕ) → length (placed w q p) ≡ length w
unfolding placed
placed_length w zero p = refl
placed_length w (suc o) p = length-set w o p

pub work_none : (w : List ℕ) (cap k p q : ℕ) → q ≡ get_or w (cap + k) 0 → q ≡ 0 → set w (cap + p) q ≡ swap_places w cap k p
unfolding swap_places placed
work_none w cap k p q e z = sym (ap (λ (v : ℕ). placed (set w (cap + p) v) v p) (sym e ∙ z) ∙ ap (λ (v : ℕ). set w (cap + p) v) (sym z))

placed_some : (t : List ℕ) (v p : ℕ) → (v ≡ 0 → ⊥) → set t (v - 1) p ≡ placed t v p
unfolding placed
placed_some t zero p z = absurd (z refl)
placed_some t (suc v) p z = ap (λ (o : ℕ). set t o p) (let f : suc v - 1 ≡ v = omega arith in f)

pub work_some : (w : List ℕ) (cap k p q : ℕ) → q ≡ get_or w (cap + k) 0 → (q ≡ 0 → ⊥) → set (set w (cap + p) q) (q - 1) p ≡ swap_places w cap k p
unfolding swap_places
work_some w cap k p q e z = placed_some (set w (cap + p) q) q p z ∙ ap (λ (v : ℕ). placed (set w (cap + p) v) v p) e

-- ---- the loop

pub record Perm (cap n : ℕ) (l l' : List ℤ) (w w' : List ℕ) (k c : ℕ) : Type 0 where
  pub len : length l' ≡ length l
  pub lenw : length w' ≡ length w
  pub inv : Inverse cap n w' k c
  pub done : (m : ℕ) → m < k → node_at l' m ≡ node_at l (get_or w m 0)
  pub todo : (m : ℕ) → k ≤ m → m < c → node_at l' (get_or w' m 0) ≡ node_at l (get_or w m 0)

pub begins : {cap n : ℕ} (l : List ℤ) {w : List ℕ} {c : ℕ} → Inverse cap n w 0 c → Perm cap n l l w w 0 c
begins l I = record { len = refl; lenw = refl; inv = I; done = λ m q. absurd (omega arith); todo = λ m q r. refl }

module _ {cap n : ℕ} {l l' : List ℤ} {w w' : List ℕ} {k c : ℕ} (S : Perm cap n l l' w w' k c) (kc : k < c) where
  pub p : ℕ
  p = get_or w' k 0

  pub p_here : (k ≤ get_or w' k 0) × (get_or w' k 0 < n)
  p_here = S.inv.within k (omega arith) kc

  abbrev q : ℕ
  q = get_or w' (cap + k) 0

  kn : k < n
  kn = let a = S.inv.upto in omega arith

  -- the node at k has number m + 1: its place in the order is k
  mine : (m : ℕ) → get_or w' (cap + k) 0 ≡ suc m → (k ≤ m) × (m < c) × (get_or w' m 0 ≡ k)
  mine m e = S.inv.order k (omega arith) kn m e

  pub q_small : get_or w' (cap + k) 0 ≤ cap
  q_small = go (get_or w' (cap + k) 0) refl
    where
      go : (v : ℕ) → get_or w' (cap + k) 0 ≡ v → v ≤ cap
      go zero e = omega arith
      go (suc m) e = let a = (mine m e).1 in let b = S.inv.upto in let d = S.inv.fits in omega arith

  module _ (words : cap * node_words ≤ length l) where
    pub roomy : (k * node_words + node_words ≤ length l') × (get_or w' k 0 * node_words + node_words ≤ length l') × (k < cap) × (get_or w' k 0 < cap) × (cap * 2 ≤ length w')
    roomy =
        let a = S.len in
        let b = S.inv.fits in
        let d = p_here.1 in
        let e = kn in
        ((omega arith), (omega arith), (omega arith), (omega arith), S.inv.works)

    abbrev l'' : List ℤ
    l'' = swap_rows l' k (get_or w' k 0)

    abbrev w'' : List ℕ
    w'' = swap_places w' cap k (get_or w' k 0)

    w''_length : length w'' ≡ length w'
    unfolding swap_places
    w''_length = placed_length (set w' (cap + get_or w' k 0) q) q (get_or w' k 0) ∙ length-set w' (cap + get_or w' k 0) q

    ord_hit : (m : ℕ) → q ≡ suc m → get_or w'' m 0 ≡ get_or w' k 0
    unfolding swap_places
    ord_hit m e = placed_hit (set w' (cap + get_or w' k 0) q) q m (get_or w' k 0) e (simp length-set (let a = q_small in let b = S.inv.works in omega arith))

    ord_miss : (m : ℕ) → m < cap → (q ≡ suc m → ⊥) → get_or w'' m 0 ≡ get_or w' m 0
    unfolding swap_places
    ord_miss m h d = placed_miss (set w' (cap + get_or w' k 0) q) q m (get_or w' k 0) d ∙ get_or-set_other w' (cap + get_or w' k 0) m q 0 (omega arith)

    num_p : get_or w'' (cap + get_or w' k 0) 0 ≡ q
    unfolding swap_places
    num_p = placed_miss (set w' (cap + get_or w' k 0) q) q (cap + get_or w' k 0) (get_or w' k 0) (λ e. let a = q_small in omega arith) ∙ get_or-set_same w' (cap + get_or w' k 0) q 0 (let a = roomy.3 in let b = S.inv.works in omega arith)

    num_else : (i : ℕ) → (i ≡ get_or w' k 0 → ⊥) → get_or w'' (cap + i) 0 ≡ get_or w' (cap + i) 0
    unfolding swap_places
    num_else i d = placed_miss (set w' (cap + get_or w' k 0) q) q (cap + i) (get_or w' k 0) (λ e. let a = q_small in omega arith) ∙ get_or-set_other w' (cap + get_or w' k 0) (cap + i) q 0 (λ e. d (omega arith))

    -- p's number is k + 1
    num_of_p : get_or w' (cap + get_or w' k 0) 0 ≡ suc k
    num_of_p = S.inv.number k (omega arith) kc

    module _ (m : ℕ) (a : k + 1 ≤ m) (b : m < c) where
      m_cap : m < cap
      m_cap = let d = S.inv.upto in let e = S.inv.fits in omega arith

      num_m : get_or w' (cap + get_or w' m 0) 0 ≡ suc m
      num_m = S.inv.number m (omega arith) b

      hit_above : q ≡ suc m → k + 1 ≤ get_or w' k 0
      hit_above e = ⊎_elim
          (λ (f : get_or w' k 0 ≡ k). absurd (let g : get_or w' (cap + get_or w' k 0) 0 ≡ q = ap (λ (z : ℕ). get_or w' (cap + z) 0) f in let h = num_of_p in omega arith))
          (λ (f : get_or w' k 0 ≡ k → ⊥). let g = p_here.0 in ne_lt (get_or w' k 0) g f)
          (same_or (get_or w' k 0) k)
        where
          ne_lt : (o : ℕ) → k ≤ o → (o ≡ k → ⊥) → k + 1 ≤ o
          ne_lt o g f = omega arith

      miss_k : (q ≡ suc m → ⊥) → get_or w' m 0 ≡ k → ⊥
      miss_k d e = d (sym (ap (λ (z : ℕ). get_or w' (cap + z) 0) e) ∙ num_m)

      miss_p : get_or w' m 0 ≡ get_or w' k 0 → ⊥
      miss_p e = let f : get_or w' (cap + get_or w' m 0) 0 ≡ get_or w' (cap + get_or w' k 0) 0 = ap (λ (z : ℕ). get_or w' (cap + z) 0) e in let g = num_m in let h = num_of_p in omega arith

      within_new : (k + 1 ≤ get_or w'' m 0) × (get_or w'' m 0 < n)
      within_new = ⊎_elim
          (λ (e : q ≡ suc m). let f = ord_hit m e in let g = hit_above e in let h = p_here.1 in ((omega arith), (omega arith)))
          (λ (d : q ≡ suc m → ⊥). let f = ord_miss m m_cap d in let g = S.inv.within m (omega arith) b in let h = miss_k d in ((let x = g.0 in omega arith), (let x = g.1 in omega arith)))
          (same_or q (suc m))

      number_new : get_or w'' (cap + get_or w'' m 0) 0 ≡ suc m
      number_new = ⊎_elim
          (λ (e : q ≡ suc m). ap (λ (z : ℕ). get_or w'' (cap + z) 0) (ord_hit m e) ∙ (num_p ∙ e))
          (λ (d : q ≡ suc m → ⊥). ap (λ (z : ℕ). get_or w'' (cap + z) 0) (ord_miss m m_cap d) ∙ (num_else (get_or w' m 0) miss_p ∙ num_m))
          (same_or q (suc m))

      todo_new : node_at l'' (get_or w'' m 0) ≡ node_at l (get_or w m 0)
      todo_new = ⊎_elim
          (λ (e : q ≡ suc m). ap (node_at l'') (ord_hit m e) ∙ (swap_p l' k (get_or w' k 0) roomy.0 roomy.1 ∙ (ap (node_at l') (sym (mine m e).2) ∙ S.todo m (omega arith) b)))
          (λ (d : q ≡ suc m → ⊥). ap (node_at l'') (ord_miss m m_cap d) ∙ (swap_else l' k (get_or w' k 0) roomy.0 roomy.1 (get_or w' m 0) (miss_k d) miss_p ∙ S.todo m (omega arith) b))
          (same_or q (suc m))

    order_new : (i : ℕ) → k + 1 ≤ i → i < n → (m : ℕ) → get_or w'' (cap + i) 0 ≡ suc m → (k + 1 ≤ m) × (m < c) × (get_or w'' m 0 ≡ i)
    order_new i a b m e = ⊎_elim at_p at_else (same_or i (get_or w' k 0))
      where
        at_p : i ≡ get_or w' k 0 → (k + 1 ≤ m) × (m < c) × (get_or w'' m 0 ≡ i)
        at_p f =
            let g : q ≡ suc m = sym num_p ∙ (ap (λ (z : ℕ). get_or w'' (cap + z) 0) (sym f) ∙ e) in
            let h = mine m g in
            let x = h.0 in (
              (⊎_elim (λ (r : m ≡ k). absurd (let s : get_or w' m 0 ≡ get_or w' k 0 = ap (λ (z : ℕ). get_or w' z 0) r in let t = h.2 in omega arith))
                  (λ (r : m ≡ k → ⊥). let s : k + 1 ≤ m = omega arith in s) (same_or m k)),
              h.1,
              ord_hit m g ∙ sym f,
            )

        at_else : (i ≡ get_or w' k 0 → ⊥) → (k + 1 ≤ m) × (m < c) × (get_or w'' m 0 ≡ i)
        at_else d =
            let g : get_or w' (cap + i) 0 ≡ suc m = sym (num_else i d) ∙ e in
            let h = S.inv.order i (omega arith) b m g in
            let x = h.0 in (
              (⊎_elim (λ (r : m ≡ k). absurd (d (sym h.2 ∙ ap (λ (z : ℕ). get_or w' z 0) r))) (λ (r : m ≡ k → ⊥). let s : k + 1 ≤ m = omega arith in s) (same_or m k)),
              h.1,
              ord_miss m (let u = h.1 in let v = S.inv.upto in let y = S.inv.fits in omega arith) (λ s. let t = (mine m s).2 in let u = h.2 in omega arith) ∙ h.2,
            )

    pub steps : Perm cap n l l'' w w'' (k + 1) c
    steps = record {
      len = swap_length l' k (get_or w' k 0) roomy.0 roomy.1 ∙ S.len;
      lenw = w''_length ∙ S.lenw;
      inv = record { upto = S.inv.upto; fits = S.inv.fits; works = let e = w''_length in let f = S.inv.works in omega arith; within = within_new; number = number_new; order = order_new };
      done = λ m a. ⊎_elim
          (λ (r : m < k). swap_else l' k (get_or w' k 0) roomy.0 roomy.1 m (omega arith) (let g = p_here.0 in omega arith) ∙ S.done m r)
          (λ (r : m ≡ k). ap (node_at l'') r ∙ (swap_k l' k (get_or w' k 0) roomy.0 roomy.1 ∙ (S.todo k (omega arith) kc ∙ ap (λ (z : ℕ). node_at l (get_or w z 0)) (sym r))))
          (split k m (omega arith));
      todo = todo_new;
    }

    pub steps_as : {l''' : List ℤ} {w''' : List ℕ} → l''' ≡ swap_rows l' k (get_or w' k 0) → w''' ≡ swap_places w' cap k (get_or w' k 0) → Perm cap n l l''' w w''' (k + 1) c
    steps_as {l'''} {w'''} e f = subst (λ (t : List ℤ). Perm cap n l t w w''' (k + 1) c) (sym e) (subst (λ (t : List ℕ). Perm cap n l l'' w t (k + 1) c) (sym f) steps)

pub ends : {cap n : ℕ} {l l' : List ℤ} {w w' : List ℕ} {k c : ℕ} → Perm cap n l l' w w' k c → c ≤ k → Arranged l l' w c
ends S h = record { len = S.len; at = λ m a. S.done m (omega arith) }
