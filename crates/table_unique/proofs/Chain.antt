-- A walk along a bucket's chain, and the chains after a node more.
use Rattle.std.proofs.Common.{◌≡◌, ℕ, zero, suc, ◌+◌, ◌-◌, ◌*◌, ◌<◌, ◌≤◌, Bool, true, false, cond, eqb, ltb, ◌⊎◌, List, length, get_or, set, ℤ, sym, refl, ap, ◌∙◌, subst, ap₂, inl, inr, ⊎_elim, add-one, arith, length-set, get_or-set_other, get_or-set_same, ltb-false, ltb-true, eq-eqb, ne_eqb, eqb-true}
use borrow.Author.Tests.{eqb-false}
use Rattle.table.proofs.Look.{split, eqN_true, eqN_refl, first_found, first_none, first_out}
use Rattle.table.proofs.Store.{put_length, put_other, put_same}
use Rattle.table.specs.Table.{node_at, put_at, eq_node, first_node}
use Rattle.table.specs.declared.Node.{Node}
use Rattle.whole.specs.Linears.{numbers}
use Rattle.table_unique.specs.Unique.{hash_of, last_of, Chained, Apart}

-- ---- the last index in a bucket

pub last_le : (h : ℕ → ℕ) (b n : ℕ) → last_of h b n ≤ n
unfolding last_of
last_le h b zero = omega arith
last_le h b (suc n) = go (eqb (h n) b) (last_le h b n)
  where
    go : (t : Bool) → last_of h b n ≤ n → cond t (suc n) (last_of h b n) ≤ suc n
    go true i = omega arith
    go false i = omega arith

pub last_is : (h : ℕ → ℕ) (b n : ℕ) → (last_of h b n ≡ 0 → ⊥) → h (last_of h b n - 1) ≡ b
unfolding last_of
last_is h b zero z = absurd (z refl)
last_is h b (suc n) z = go (eqb (h n) b) refl (last_is h b n) z
  where
    go : (t : Bool) → eqb (h n) b ≡ t → ((last_of h b n ≡ 0 → ⊥) → h (last_of h b n - 1) ≡ b) → (cond t (suc n) (last_of h b n) ≡ 0 → ⊥) → h (cond t (suc n) (last_of h b n) - 1) ≡ b
    go true e ih z = ap h (let q : suc n - 1 ≡ n = omega arith in q) ∙ eqb-true (h n) b e
    go false e ih z = ih z

pub last_above : (h : ℕ → ℕ) (b n j : ℕ) → last_of h b n ≤ j → j < n → h j ≡ b → ⊥
unfolding last_of
last_above h b zero j p q e = omega arith
last_above h b (suc n) j p q e = go (eqb (h n) b) refl (last_above h b n j) p
  where
    go : (t : Bool) → eqb (h n) b ≡ t → (last_of h b n ≤ j → j < n → h j ≡ b → ⊥) → cond t (suc n) (last_of h b n) ≤ j → ⊥
    go true d ih p = omega arith
    go false d ih p = ⊎_elim (λ r. ih p r e) (λ r. eqb-false (h n) b d (ap h (sym r) ∙ e)) (split n j q)

last_same : (h k : ℕ → ℕ) (b n : ℕ) → ((i : ℕ) → i < n → k i ≡ h i) → last_of k b n ≡ last_of h b n
unfolding last_of
last_same h k b zero e = refl
last_same h k b (suc n) e = ap₂ (λ (v r : ℕ). cond (eqb v b) (suc n) r) (e n (omega arith)) (last_same h k b n (λ i q. e i (omega arith)))

last_new : (h : ℕ → ℕ) (b n : ℕ) → h n ≡ b → last_of h b (suc n) ≡ suc n
unfolding last_of
last_new h b n e = ap (λ (t : Bool). cond t (suc n) (last_of h b n)) (eq-eqb (h n) b e)

last_old : (h : ℕ → ℕ) (b n : ℕ) → (h n ≡ b → ⊥) → last_of h b (suc n) ≡ last_of h b n
unfolding last_of
last_old h b n e = ap (λ (t : Bool). cond t (suc n) (last_of h b n)) (ne_eqb (h n) b e)

-- ---- the walk

abbrev pub H : ℕ → List ℤ → ℕ → ℕ
H cap l i = hash_of cap (node_at l i)

-- at the link `at`: what stands from there on in the bucket has been seen
pub record Walk (cap : ℕ) (l : List ℤ) (n : ℕ) (x : Node) (at : ℕ) : Type 0 where
  pub within : at ≤ n
  pub mine : (at ≡ 0 → ⊥) → H cap l (at - 1) ≡ hash_of cap x
  pub seen : (j : ℕ) → at ≤ j → j < n → H cap l j ≡ hash_of cap x → eq_node (node_at l j) x ≡ false

module _ {cap : ℕ} {l : List ℤ} {w : List ℕ} {n : ℕ} (C : Chained cap l w n) (x : Node) where
  pub begins : (b : ℕ) → b < cap → b ≡ hash_of cap x → Walk cap l n x (get_or w b 0)
  begins b q e =
      let r : get_or w b 0 ≡ last_of (H cap l) (hash_of cap x) n = C.hashed.heads b q ∙ ap (λ (k : ℕ). last_of (H cap l) k n) e in
      subst (Walk cap l n x) (sym r) (record {
        within = last_le (H cap l) (hash_of cap x) n;
        mine = last_is (H cap l) (hash_of cap x) n;
        seen = λ j p s d. absurd (last_above (H cap l) (hash_of cap x) n j p s d);
      })

  pub link_is : (at : ℕ) → (at ≡ 0 → ⊥) → Walk cap l n x at → get_or w (cap + (at - 1)) 0 ≡ last_of (H cap l) (hash_of cap x) (at - 1)
  link_is at z W = C.hashed.links (at - 1) (let q = W.within in omega arith) ∙ ap (λ (k : ℕ). last_of (H cap l) k (at - 1)) (W.mine z)

  pub goes_on : (at : ℕ) → (at ≡ 0 → ⊥) → Walk cap l n x at → eq_node (node_at l (at - 1)) x ≡ false → Walk cap l n x (get_or w (cap + (at - 1)) 0)
  goes_on at z W f =
      subst (Walk cap l n x) (sym (link_is at z W)) (record {
        within = let q = last_le (H cap l) (hash_of cap x) (at - 1) in let r = W.within in omega arith;
        mine = last_is (H cap l) (hash_of cap x) (at - 1);
        seen = λ j p s d. ⊎_elim
            (λ (r : j < at). ⊎_elim
            (λ (q : j < at - 1). absurd (last_above (H cap l) (hash_of cap x) (at - 1) j p q d))
            (λ (q : j ≡ at - 1). ap (λ (k : ℕ). eq_node (node_at l k) x) q ∙ f)
            (split (at - 1) j (omega arith)))
            (λ (r : at ≤ j). W.seen j r s d)
            (order j at);
      })
    where
      order : (j k : ℕ) → (j < k) ⊎ (k ≤ j)
      order j k = go (ltb j k) refl
        where
          go : (t : Bool) → ltb j k ≡ t → (j < k) ⊎ (k ≤ j)
          go true e = inl (ltb-true j k e)
          go false e = inr (ltb-false j k e)

  pub less : (at : ℕ) → (at ≡ 0 → ⊥) → Walk cap l n x at → get_or w (cap + (at - 1)) 0 < at
  less at z W = let e = link_is at z W in let q = last_le (H cap l) (hash_of cap x) (at - 1) in omega arith

  others : (i : ℕ) → i < n → eq_node (node_at l i) x ≡ true → (k : ℕ) → k < i → eq_node (node_at l k) x ≡ false
  others i q e k r = go (eq_node (node_at l k) x) refl
    where
      go : (t : Bool) → eq_node (node_at l k) x ≡ t → eq_node (node_at l k) x ≡ false
      go true d = absurd (let z : k ≡ i = C.apart k i (omega arith) q (eqN_true (node_at l k) x d ∙ sym (eqN_true (node_at l i) x e)) in omega arith)
      go false d = d

  pub hits : (at : ℕ) → (at ≡ 0 → ⊥) → Walk cap l n x at → eq_node (node_at l (at - 1)) x ≡ true → at - 1 ≡ first_node l x n
  unfolding first_node
  hits at z W e =
      let q : at - 1 < n = let r = W.within in omega arith in
      sym (first_found (λ i. eq_node (node_at l i) x) n (at - 1) q e (others (at - 1) q e))

  pub misses : (at : ℕ) → at ≡ 0 → Walk cap l n x at → n ≡ first_node l x n
  unfolding first_node
  misses at z W = sym (first_none (λ i. eq_node (node_at l i) x) n (λ k q. go k q (eq_node (node_at l k) x) refl))
    where
      go : (k : ℕ) → k < n → (t : Bool) → eq_node (node_at l k) x ≡ t → eq_node (node_at l k) x ≡ false
      go k q true d = W.seen k (omega arith) q (ap (hash_of cap) (eqN_true (node_at l k) x d))
      go k q false d = d

  -- ---- the chains with x at n
  module _ (xn : length x.n ≡ numbers) (r : ℕ) (er : r ≡ first_node l x n) (nr : n ≤ r) (nc : n < cap) (b : ℕ) (eb : b ≡ hash_of cap x) (bc : b < cap) where
    abbrev l' : List ℤ
    l' = put_at l n x

    abbrev w' : List ℕ
    w' = set (set w (cap + n) (get_or w b 0)) b (n + 1)

    at_n : node_at l' n ≡ x
    at_n = put_same l n x (let q = C.space.words in omega arith) xn

    same_hash : (i : ℕ) → i < n → H cap l' i ≡ H cap l i
    same_hash i q = ap (hash_of cap) (put_other l n x i q)

    hash_n : H cap l' n ≡ b
    hash_n = ap (hash_of cap) at_n ∙ sym eb

    heads_new : (k : ℕ) → k < cap → get_or w' k 0 ≡ last_of (H cap l') k (n + 1)
    heads_new k q = go (eqb k b) refl
      where
        go : (t : Bool) → eqb k b ≡ t → get_or w' k 0 ≡ last_of (H cap l') k (n + 1)
        go true e =
            let d : k ≡ b = eqb-true k b e in
            ap (λ (z : ℕ). get_or w' z 0) d ∙ (get_or-set_same (set w (cap + n) (get_or w b 0)) b (n + 1) 0 (simp length-set (let z = C.space.works in omega arith))
            ∙ (add-one n ∙ sym (ap₂ (λ (z m : ℕ). last_of (H cap l') z m) d (add-one n) ∙ last_new (H cap l') b n hash_n)))
        go false e =
            let d : k ≡ b → ⊥ = eqb-false k b e in
            get_or-set_other (set w (cap + n) (get_or w b 0)) b k (n + 1) 0 d ∙ (get_or-set_other w (cap + n) k (get_or w b 0) 0 (omega arith)
            ∙ (C.hashed.heads k q ∙ sym (ap (last_of (H cap l') k) (add-one n) ∙ (last_old (H cap l') k n (λ z. d (sym z ∙ hash_n)) ∙ last_same (H cap l) (H cap l') k n same_hash))))

    links_new : (i : ℕ) → i < n + 1 → get_or w' (cap + i) 0 ≡ last_of (H cap l') (H cap l' i) i
    links_new i q = get_or-set_other (set w (cap + n) (get_or w b 0)) b (cap + i) (n + 1) 0 (omega arith) ∙ ⊎_elim old new (split n i (omega arith))
      where
        old : i < n → get_or (set w (cap + n) (get_or w b 0)) (cap + i) 0 ≡ last_of (H cap l') (H cap l' i) i
        old s =
            get_or-set_other w (cap + n) (cap + i) (get_or w b 0) 0 (omega arith)
            ∙ (C.hashed.links i s ∙ sym (ap (λ (z : ℕ). last_of (H cap l') z i) (same_hash i s) ∙ last_same (H cap l) (H cap l') (H cap l i) i (λ j p. same_hash j (omega arith))))

        new : i ≡ n → get_or (set w (cap + n) (get_or w b 0)) (cap + i) 0 ≡ last_of (H cap l') (H cap l' i) i
        new s =
            ap (λ (z : ℕ). get_or (set w (cap + n) (get_or w b 0)) (cap + z) 0) s
            ∙ (get_or-set_same w (cap + n) (get_or w b 0) 0 (let z = C.space.works in omega arith)
            ∙ (C.hashed.heads b bc ∙ sym (ap (λ (z : ℕ). last_of (H cap l') (H cap l' z) z) s ∙ (ap (λ (z : ℕ). last_of (H cap l') z n) hash_n ∙ last_same (H cap l) (H cap l') b n same_hash))))

    absent : (i : ℕ) → i < n → node_at l i ≡ x → ⊥
    unfolding first_node
    absent i q e =
        let a = first_out (λ i. eq_node (node_at l i) x) n (omega arith) i q in
        let c = ap (λ (z : Node). eq_node z x) e ∙ eqN_refl x in
        let z : ◌≡◌ {A = ℕ} 0 1 = cc in omega arith

    apart_new : Apart l' (n + 1)
    apart_new i j p q e = ⊎_elim
        (λ (s : i < n). ⊎_elim
        (λ (t : j < n). C.apart i j s t (sym (put_other l n x i s) ∙ (e ∙ put_other l n x j t)))
        (λ (t : j ≡ n). absurd (absent i s (sym (put_other l n x i s) ∙ (e ∙ (ap (node_at l') t ∙ at_n)))))
        (split n j (omega arith)))
        (λ (s : i ≡ n). ⊎_elim
        (λ (t : j < n). absurd (absent j t (sym (put_other l n x j t) ∙ (sym e ∙ (ap (node_at l') s ∙ at_n)))))
        (λ (t : j ≡ n). omega arith)
        (split n j (omega arith)))
        (split n i (omega arith))

    pub chained_new : Chained cap l' w' (n + 1)
    chained_new = record {
      space = record {
        some = C.space.some;
        few = C.space.few;
        room = omega arith;
        words = let z = C.space.words in let e = put_length l n x in omega arith;
        works = simp length-set C.space.works;
      };
      hashed = record { heads = heads_new; links = links_new };
      apart = apart_new;
    }

pub chained_as : {cap : ℕ} {l l' : List ℤ} {w : List ℕ} {n : ℕ} → l' ≡ l → Chained cap l w n → Chained cap l' w n
chained_as {cap} {l} {l'} {w} {n} e C = subst (λ (z : List ℤ). Chained cap z w n) (sym e) C

-- words beyond the chains stay
pub frame : (w : List ℕ) (cap n b v u : ℕ) → n < cap → b < cap → (j : ℕ) → cap * 2 ≤ j → get_or (set (set w (cap + n) v) b u) j 0 ≡ get_or w j 0
frame w cap n b v u p q j h = get_or-set_other (set w (cap + n) v) b j u 0 (omega arith) ∙ get_or-set_other w (cap + n) j v 0 (omega arith)
