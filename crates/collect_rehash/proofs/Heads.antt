-- The chains of one node more, over nodes that stay.
use mathlib.Core.Path.{◌≡◌, refl, sym, ap, ap₂, ◌∙◌, subst}
use mathlib.Core.Bool.{Bool, true, false, cond}
use mathlib.Core.Logic.{⊎_elim}
use mathlib.Core.List.{List}
use Prim.Native.Nat.{ℕ, suc, ◌+◌, ◌*◌, ◌≤◌, ◌<◌}
use native.Mathlib.Numerals.{add-one}
use native.Mathlib.Omega.{arith}
use borrow.Author.Tests.{eqb-true, eqb-false, eq-eqb, ne_eqb}
use lib.Dec.{eqb}
use lib.IntN.{ℤ}
use lib.ListN.{length, get_or, set, length-set}
use lib.Seq.{get_or-set_same, get_or-set_other}
use Rattle.table.proofs.Look.{split}
use Rattle.table.specs.Table.{node_at}
use Rattle.table.specs.declared.Node.{Node}
use Rattle.table_unique.specs.Unique.{work_words, hash_of, last_of, Hashed, Space}
use Rattle.table_unique.proofs.Chain.{H}
use Rattle.table_clear.specs.Wipe.{wiped}
use Rattle.table_clear.proofs.Parts.{same_length, before, within, after}
use Rattle.collect_rehash.specs.Rehash.{Rehashed}

last_new : (h : ℕ → ℕ) (b n : ℕ) → h n ≡ b → last_of h b (suc n) ≡ suc n
unfolding last_of
last_new h b n e = ap (λ (t : Bool). cond t (suc n) (last_of h b n)) (eq-eqb (h n) b e)

last_old : (h : ℕ → ℕ) (b n : ℕ) → (h n ≡ b → ⊥) → last_of h b (suc n) ≡ last_of h b n
unfolding last_of
last_old h b n e = ap (λ (t : Bool). cond t (suc n) (last_of h b n)) (ne_eqb (h n) b e)

-- the first i nodes are chained
pub record Upto (cap : ℕ) (l : List ℤ) (w w' : List ℕ) (n i : ℕ) : Type 0 where
  pub upto : i ≤ n
  pub len : length w' ≡ length w
  pub hashed : Hashed cap l w' i
  pub frame : (j : ℕ) → cap * 2 ≤ j → get_or w' j 0 ≡ get_or w j 0

-- ---- the words cleared: w₁ from w, w₂ from w₁
module _ {cap : ℕ} {l : List ℤ} {w w₁ : List ℕ} {n : ℕ} (Z : Space cap l w n) (e₁ : w₁ ≡ wiped 0 0 cap w) where
  len₁ : length w₁ ≡ length w
  len₁ = let z = Z.works in same_length 0 w 0 cap e₁ (omega arith) (omega arith)

  room₁ : (cap * 2 ≤ cap * work_words) × (cap * work_words ≤ length w₁)
  room₁ = let z = Z.works in let q = len₁ in ((omega arith), (omega arith))

  module _ {w₂ : List ℕ} (e₂ : w₂ ≡ wiped 0 (cap * 2) (cap * work_words) w₁) where
    len₂ : length w₂ ≡ length w
    len₂ = same_length 0 w₁ (cap * 2) (cap * work_words) e₂ room₁.0 room₁.1 ∙ len₁

    pub begins : Upto cap l w₂ w₂ n 0
    unfolding last_of
    begins = record {
      upto = omega arith;
      len = refl;
      hashed = record {
        heads = λ b p. before 0 w₁ (cap * 2) (cap * work_words) e₂ room₁.0 room₁.1 0 b (omega arith) ∙ within 0 w 0 cap e₁ (omega arith) (let z = Z.works in omega arith) 0 b (omega arith) p;
        links = λ i p. absurd (omega arith);
      };
      frame = λ j p. refl;
    }

    pub ends : {w' : List ℕ} {i : ℕ} → Upto cap l w₂ w' n i → n ≤ i → Rehashed cap l w w' n
    ends {w'} {i} U h = record {
      hashed = subst (Hashed cap l w') (let u = U.upto in let q : i ≡ n = omega arith in q) U.hashed;
      cache = λ j p q. U.frame j p ∙ within 0 w₁ (cap * 2) (cap * work_words) e₂ room₁.0 room₁.1 0 j p q;
      beyond = λ j p. U.frame j (omega arith) ∙ (after 0 w₁ (cap * 2) (cap * work_words) e₂ room₁.0 room₁.1 0 j p ∙ after 0 w 0 cap e₁ (omega arith) (let z = Z.works in omega arith) 0 j (omega arith));
      len = U.len ∙ len₂;
    }

-- ---- one node more
module _ {cap : ℕ} {l : List ℤ} {w₀ w : List ℕ} {m i : ℕ} (U : Upto cap l w₀ w m i) (big : cap * work_words ≤ length w₀) (nm : i < m) (mc : m ≤ cap) (x : Node) (ex : x ≡ node_at l i) (b : ℕ) (eb : b ≡ hash_of cap x) (bc : b < cap) where
  abbrev w' : List ℕ
  w' = set (set w (cap + i) (get_or w b 0)) b (i + 1)

  works : cap * work_words ≤ length w
  works = let e = U.len in omega arith

  hash_i : H cap l i ≡ b
  hash_i = ap (hash_of cap) (sym ex) ∙ sym eb

  heads_new : (k : ℕ) → k < cap → get_or w' k 0 ≡ last_of (H cap l) k (i + 1)
  heads_new k q = go (eqb k b) refl
    where
      go : (t : Bool) → eqb k b ≡ t → get_or w' k 0 ≡ last_of (H cap l) k (i + 1)
      go true e =
          let d : k ≡ b = eqb-true k b e in
          ap (λ (z : ℕ). get_or w' z 0) d ∙ (get_or-set_same (set w (cap + i) (get_or w b 0)) b (i + 1) 0 (simp length-set (let z = works in omega arith))
          ∙ (add-one i ∙ sym (ap₂ (λ (z m : ℕ). last_of (H cap l) z m) d (add-one i) ∙ last_new (H cap l) b i hash_i)))
      go false e =
          let d : k ≡ b → ⊥ = eqb-false k b e in
          get_or-set_other (set w (cap + i) (get_or w b 0)) b k (i + 1) 0 d ∙ (get_or-set_other w (cap + i) k (get_or w b 0) 0 (omega arith)
          ∙ (U.hashed.heads k q ∙ sym (ap (last_of (H cap l) k) (add-one i) ∙ last_old (H cap l) k i (λ z. d (sym z ∙ hash_i)))))

  links_new : (j : ℕ) → j < i + 1 → get_or w' (cap + j) 0 ≡ last_of (H cap l) (H cap l j) j
  links_new j q = get_or-set_other (set w (cap + i) (get_or w b 0)) b (cap + j) (i + 1) 0 (omega arith) ∙ ⊎_elim old new (split i j (omega arith))
    where
      old : j < i → get_or (set w (cap + i) (get_or w b 0)) (cap + j) 0 ≡ last_of (H cap l) (H cap l j) j
      old s = get_or-set_other w (cap + i) (cap + j) (get_or w b 0) 0 (omega arith) ∙ U.hashed.links j s

      new : j ≡ i → get_or (set w (cap + i) (get_or w b 0)) (cap + j) 0 ≡ last_of (H cap l) (H cap l j) j
      new s =
          ap (λ (z : ℕ). get_or (set w (cap + i) (get_or w b 0)) (cap + z) 0) s
          ∙ (get_or-set_same w (cap + i) (get_or w b 0) 0 (let z = works in omega arith)
          ∙ (U.hashed.heads b bc ∙ sym (ap (λ (z : ℕ). last_of (H cap l) (H cap l z) z) s ∙ ap (λ (z : ℕ). last_of (H cap l) z i) hash_i)))

  pub steps : Upto cap l w₀ w' m (i + 1)
  steps = record {
    upto = omega arith;
    len = simp length-set U.len;
    hashed = record { heads = heads_new; links = links_new };
    frame = λ j p. get_or-set_other (set w (cap + i) (get_or w b 0)) b j (i + 1) 0 (omega arith) ∙ (get_or-set_other w (cap + i) j (get_or w b 0) 0 (omega arith) ∙ U.frame j p);
  }
