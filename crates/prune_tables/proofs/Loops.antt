-- The two loops over the stage words: roots gathered, numbers spread.
use mathlib.Core.Path.{◌≡◌, refl, sym, ap, ap₂, ◌∙◌}
use mathlib.Core.List.{List, [], ◌∷◌, ◌++◌}
use Prim.Native.Nat.{ℕ, ◌+◌, ◌≤◌, ◌<◌}
use native.Mathlib.Numerals.{add-one}
use native.Mathlib.Omega.{arith}
use borrow.Author.Tests.{eqb-true, eqb-false, eq-eqb, ne_eqb}
use lib.Dec.{eqb}
use lib.ListN.{length, get_or, set, take, length-set}
use lib.Seq.{take-suc-set, take_all, get_or-set_same, get_or-set_other}
use Rattle.whole.specs.Cases.{if, by_eq}
use Rattle.prune_tables.specs.Tables.{rooted, before, gone_to, Gathered, Spread}
use Rattle.prune_tables.proofs.Rooted.{with_root, without_root, before_most, before_more, before_same}

-- ---- roots gathered

-- those of the first h words
pub record Gathering (cap : ℕ) (w s R₀ R : List ℕ) (k h : ℕ) : Type 0 where
  pub roots : take k R ≡ rooted (gone_to cap w) (take h s)
  pub count : k ≡ before s h
  pub upto : h ≤ length s
  pub len : length R ≡ length R₀

module _ {cap : ℕ} {w s R₀ : List ℕ} where
  pub gather_begins : Gathering cap w s R₀ R₀ 0 0
  unfolding rooted
  gather_begins = record { roots = refl; count = refl; upto = omega arith; len = refl }

  module _ {R : List ℕ} {k h : ℕ} (G : Gathering cap w s R₀ R k h) where
    pub few_gathered : k ≤ h
    few_gathered = omega (arith, before_most s h G.upto, G.count)

    pub gather_root : length s ≤ length R₀ → h < length s → (get_or s h 0 ≡ 0 → ⊥) → {v k' : ℕ} {R' : List ℕ} → v ≡ gone_to cap w (get_or s h 0) → R' ≡ set R k v → k' ≡ k + 1 → Gathering cap w s R₀ R' k' (h + 1)
    gather_root q l z {v} {k'} {R'} e p n = let x = ne_eqb (get_or s h 0) 0 z in record {
      roots =
          ap₂ (λ (j : ℕ) (t : List ℕ). take j t) (n ∙ add-one k) p
          ∙ (take-suc-set R k v (let b = few_gathered in omega (arith, G.len))
          ∙ (ap₂ (λ (t : List ℕ) (y : ℕ). t ++ (y ∷ [])) G.roots e ∙ sym (with_root (gone_to cap w) s h l x)));
      count = n ∙ (ap (λ (j : ℕ). j + 1) G.count ∙ before_more s h l x);
      upto = omega arith;
      len = ap length p ∙ (length-set R k v ∙ G.len);
    }

    pub gather_none : h < length s → get_or s h 0 ≡ 0 → {k' : ℕ} {R' : List ℕ} → R' ≡ R → k' ≡ k → Gathering cap w s R₀ R' k' (h + 1)
    gather_none l z p n = let x = eq-eqb (get_or s h 0) 0 z in record {
      roots = ap₂ (λ (j : ℕ) (t : List ℕ). take j t) n p ∙ (G.roots ∙ sym (without_root (gone_to cap w) s h l x));
      count = n ∙ (G.count ∙ before_same s h l x);
      upto = omega arith;
      len = ap length p ∙ G.len;
    }

    pub gather_ends : length s ≤ h → Gathered cap w s R k
    gather_ends l = record { roots = G.roots ∙ ap (rooted (gone_to cap w)) (take_all h s l); few = let b = few_gathered in omega (arith, G.upto) }

-- ---- numbers spread

abbrev pub spread_at : List ℕ → List ℕ → ℕ → ℕ
spread_at ns s i = if (eqb (get_or s i 0) 0) 0 (get_or ns (before s i) 0)

-- over the first h words
pub record Spreading (ns s₀ s : List ℕ) (k h : ℕ) : Type 0 where
  pub done : (i : ℕ) → i < h → get_or s i 0 ≡ spread_at ns s₀ i
  pub rest : (i : ℕ) → h ≤ i → get_or s i 0 ≡ get_or s₀ i 0
  pub count : k ≡ before s₀ h
  pub upto : h ≤ length s₀
  pub len : length s ≡ length s₀

module _ {ns s₀ : List ℕ} where
  pub spread_begins : Spreading ns s₀ s₀ 0 0
  unfolding rooted
  spread_begins = record { done = λ i l. absurd (omega arith); rest = λ i l. refl; count = refl; upto = omega arith; len = refl }

  module _ {s : List ℕ} {k h : ℕ} (S : Spreading ns s₀ s k h) where
    pub few_spread : k ≤ h
    few_spread = omega (arith, before_most s₀ h S.upto, S.count)

    -- the word at index h is done
    spread_one : {s' : List ℕ} {k' : ℕ} → ((i : ℕ) → (i ≡ h → ⊥) → get_or s' i 0 ≡ get_or s i 0) → get_or s' h 0 ≡ spread_at ns s₀ h → k' ≡ before s₀ (h + 1) → h < length s₀ → length s' ≡ length s
        → Spreading ns s₀ s' k' (h + 1)
    spread_one {s'} other here n l e = record {
      done = λ i u. by_eq (eqb i h) (λ _. get_or s' i 0 ≡ spread_at ns s₀ i)
          (λ t. let z : i ≡ h = eqb-true i h t in ap (λ (j : ℕ). get_or s' j 0) z ∙ (here ∙ ap (spread_at ns s₀) (sym z)))
          (λ t. let z = eqb-false i h t in other i z ∙ S.done i (omega arith));
      rest = λ i u. other i (λ z. absurd (omega arith)) ∙ S.rest i (omega arith);
      count = n;
      upto = omega arith;
      len = e ∙ S.len;
    }

    pub spread_number : h < length s₀ → (get_or s h 0 ≡ 0 → ⊥) → {s' : List ℕ} {k' : ℕ} → s' ≡ set s h (get_or ns k 0) → k' ≡ k + 1 → Spreading ns s₀ s' k' (h + 1)
    spread_number l z {s'} {k'} p n =
        let x = ne_eqb (get_or s₀ h 0) 0 (λ y. z (S.rest h (omega arith) ∙ y)) in
        spread_one
        (λ i u. ap (λ (t : List ℕ). get_or t i 0) p ∙ get_or-set_other s h i (get_or ns k 0) 0 u)
        (ap (λ (t : List ℕ). get_or t h 0) p ∙ (get_or-set_same s h (get_or ns k 0) 0 (omega (arith, S.len))
        ∙ (ap (λ (j : ℕ). get_or ns j 0) S.count ∙ ap (λ b. if b 0 (get_or ns (before s₀ h) 0)) (sym x))))
        (n ∙ (ap (λ (j : ℕ). j + 1) S.count ∙ before_more s₀ h l x))
        l
        (ap length p ∙ length-set s h (get_or ns k 0))

    pub spread_none : h < length s₀ → get_or s h 0 ≡ 0 → {s' : List ℕ} {k' : ℕ} → s' ≡ s → k' ≡ k → Spreading ns s₀ s' k' (h + 1)
    spread_none l z {s'} {k'} p n =
        let x = eq-eqb (get_or s₀ h 0) 0 (sym (S.rest h (omega arith)) ∙ z) in
        spread_one
        (λ i u. ap (λ (t : List ℕ). get_or t i 0) p)
        (ap (λ (t : List ℕ). get_or t h 0) p ∙ (z ∙ ap (λ b. if b 0 (get_or ns (before s₀ h) 0)) (sym x)))
        (n ∙ (S.count ∙ before_same s₀ h l x))
        l
        (ap length p)

    pub spread_ends : length s₀ ≤ h → Spread ns s₀ s
    spread_ends l = record { words = λ i u. S.done i (omega arith); len = S.len }
