-- Ranks: where the marked ones of a list stand once the others are gone.
use mathlib.Core.Path.{◌≡◌, refl, sym, ap, ap₂, ◌∙◌}
use mathlib.Core.Bool.{Bool, true, false, cond}
use mathlib.Core.Logic.{⊎_elim}
use mathlib.Core.List.{List, [], ◌∷◌, ◌++◌}
use Prim.Native.Nat.{ℕ, zero, suc, ◌+◌, ◌≤◌, ◌<◌}
use native.Mathlib.Numerals.{add-one}
use native.Mathlib.Omega.{arith}
use lib.IntN.{ℤ}
use lib.ListN.{length, get_or, length-append, get_or-append}
use lib.Seq.{get_or_at}
use Rattle.table.proofs.Look.{split}
use Rattle.theory.specs.Diagram.{Tree}
use Rattle.rule_node.specs.Nodes.{blank, trees}
use Rattle.rule_node.proofs.Trees.{trees_at}
use Rattle.collect_compact.specs.Slide.{rank, keep_of}

module _ (m : ℕ → Bool) where
  pub rank_le : (i : ℕ) → rank m i ≤ i
  unfolding rank
  rank_le zero = omega arith
  rank_le (suc i) = go (m i) (rank_le i)
    where
      go : (b : Bool) → rank m i ≤ i → cond b (rank m i + 1) (rank m i) ≤ suc i
      go true h = omega arith
      go false h = omega arith

  pub rank_yes : (i : ℕ) → m i ≡ true → rank m (i + 1) ≡ rank m i + 1
  unfolding rank
  rank_yes i e = ap (rank m) (add-one i) ∙ ap (λ (b : Bool). cond b (rank m i + 1) (rank m i)) e

  pub rank_no : (i : ℕ) → m i ≡ false → rank m (i + 1) ≡ rank m i
  unfolding rank
  rank_no i e = ap (rank m) (add-one i) ∙ ap (λ (b : Bool). cond b (rank m i + 1) (rank m i)) e

  module _ (X : List Tree) where
    pub keep_yes : (i : ℕ) → m i ≡ true → keep_of m X (i + 1) ≡ keep_of m X i ++ (get_or X i blank ∷ [])
    unfolding keep_of
    keep_yes i e = ap (keep_of m X) (add-one i) ∙ ap (λ (b : Bool). cond b (keep_of m X i ++ (get_or X i blank ∷ [])) (keep_of m X i)) e

    pub keep_no : (i : ℕ) → m i ≡ false → keep_of m X (i + 1) ≡ keep_of m X i
    unfolding keep_of
    keep_no i e = ap (keep_of m X) (add-one i) ∙ ap (λ (b : Bool). cond b (keep_of m X i ++ (get_or X i blank ∷ [])) (keep_of m X i)) e

    keep_length : (i : ℕ) → length (keep_of m X i) ≡ rank m i
    unfolding keep_of rank
    keep_length zero = refl
    keep_length (suc i) = go (m i) (keep_length i)
      where
        go : (b : Bool) → length (keep_of m X i) ≡ rank m i → length (cond b (keep_of m X i ++ (get_or X i blank ∷ [])) (keep_of m X i)) ≡ cond b (rank m i + 1) (rank m i)
        go true h = length-append (keep_of m X i) _ ∙ ap (λ (k : ℕ). k + 1) h
        go false h = h

    -- a kept tree stands at its rank
    pub keep_at : (i k : ℕ) → k < i → m k ≡ true → (rank m k < rank m i) × (get_or (keep_of m X i) (rank m k) blank ≡ get_or X k blank)
    unfolding keep_of rank
    keep_at zero k h e = absurd (omega arith)
    keep_at (suc i) k h e = ⊎_elim (λ (q : k < i). old (keep_at i k q e) (m i)) (λ (q : k ≡ i). new q (m i) refl) (split i k h)
      where
        old : (rank m k < rank m i) × (get_or (keep_of m X i) (rank m k) blank ≡ get_or X k blank) → (b : Bool) → (rank m k < cond b (rank m i + 1) (rank m i)) ×
            (get_or (cond b (keep_of m X i ++ (get_or X i blank ∷ [])) (keep_of m X i)) (rank m k) blank ≡ get_or X k blank)
        old p true = (omega arith, get_or-append (keep_of m X i) _ blank (rank m k) (let q = keep_length i in omega arith) ∙ p.1)
        old p false = p

        new : k ≡ i → (b : Bool) → m i ≡ b → (rank m k < cond b (rank m i + 1) (rank m i)) × (get_or (cond b (keep_of m X i ++ (get_or X i blank ∷ [])) (keep_of m X i)) (rank m k) blank ≡ get_or X k blank)
        new q true d =
            let r : rank m k ≡ rank m i = ap (rank m) q in
            (omega arith, get_or_at (keep_of m X i) (get_or X i blank) [] blank (rank m k) (keep_length i ∙ sym r) ∙ ap (λ (z : ℕ). get_or X z blank) (sym q))
        new q false d = absurd (let w : m i ≡ true = ap m (sym q) ∙ e in let z : ◌≡◌ {A = ℕ} 0 1 = cc in omega arith)

  -- where all are marked, each is its own rank, and all are kept
  pub rank_all : (i : ℕ) → ((k : ℕ) → k < i → m k ≡ true) → rank m i ≡ i
  unfolding rank
  rank_all zero h = refl
  rank_all (suc i) h =
      ap (λ (b : Bool). cond b (rank m i + 1) (rank m i)) (h i (omega arith)) ∙ ap (λ (k : ℕ). k + 1) (rank_all i (λ k q. h k (omega arith))) ∙ add-one i

  pub keep_all : (l : List ℤ) (n i : ℕ) → i ≤ n → ((k : ℕ) → k < i → m k ≡ true) → keep_of m (trees l n) i ≡ trees l i
  unfolding keep_of trees
  keep_all l n zero q h = refl
  keep_all l n (suc i) q h =
      ap (λ (b : Bool). cond b (keep_of m (trees l n) i ++ (get_or (trees l n) i blank ∷ [])) (keep_of m (trees l n) i)) (h i (omega arith))
      ∙ ap₂ (λ (X : List Tree) (t : Tree). X ++ (t ∷ [])) (keep_all l n i (omega arith) (λ k r. h k (omega arith))) (trees_at l n i (omega arith))

  -- marks that agree below n have the same ranks, and keep the same
  module _ (m' : ℕ → Bool) where
    pub rank_same : (n : ℕ) → ((k : ℕ) → k < n → m' k ≡ m k) → rank m' n ≡ rank m n
    unfolding rank
    rank_same zero h = refl
    rank_same (suc n) h = ap₂ (λ (b : Bool) (r : ℕ). cond b (r + 1) r) (h n (omega arith)) (rank_same n (λ k q. h k (omega arith)))

    pub keep_same : (X : List Tree) (n : ℕ) → ((k : ℕ) → k < n → m' k ≡ m k) → keep_of m' X n ≡ keep_of m X n
    unfolding keep_of
    keep_same X zero h = refl
    keep_same X (suc n) h = ap₂ (λ (b : Bool) (Y : List Tree). cond b (Y ++ (get_or X n blank ∷ [])) Y) (h n (omega arith)) (keep_same X n (λ k q. h k (omega arith)))

  -- each rank is some marked index's
  pub unrank : (i a : ℕ) → a < rank m i → (k : ℕ) × (k < i) × (m k ≡ true) × (rank m k ≡ a)
  unfolding rank
  unrank zero a h = absurd (omega arith)
  unrank (suc i) a h = go (m i) refl h (unrank i a)
    where
      up : (k : ℕ) × (k < i) × (m k ≡ true) × (rank m k ≡ a) → (k : ℕ) × (k < suc i) × (m k ≡ true) × (rank m k ≡ a)
      up p = (p.0, (let q = p.1 in omega arith), p.2, p.3)

      go : (b : Bool) → m i ≡ b → a < cond b (rank m i + 1) (rank m i) → (a < rank m i → (k : ℕ) × (k < i) × (m k ≡ true) × (rank m k ≡ a)) → (k : ℕ) × (k < suc i) × (m k ≡ true) × (rank m k ≡ a)
      go true e h ih = ⊎_elim (λ (q : a < rank m i). up (ih q)) (λ (q : a ≡ rank m i). (i, (omega arith), e, sym q)) (split (rank m i) a (omega arith))
      go false e h ih = up (ih h)
