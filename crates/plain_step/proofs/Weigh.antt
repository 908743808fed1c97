-- Chances and the weight of a setting.
use mathlib.Core.Path.{◌≡◌, refl, sym, ap, ap₂, ◌∙◌, subst}
use mathlib.Core.Bool.{Bool, true, false}
use mathlib.Core.List.{List, [], ◌∷◌}
use Prim.Native.Nat.{ℕ, zero, suc, ◌+◌, ◌-◌, ◌*◌, ◌≤◌, ◌<◌}
use native.Mathlib.Nat.{mul-le-mul}
use native.Mathlib.Omega.{arith}
use borrow.Author.Tests.{le-leb, lt-leb}
use lib.Dec.{leb}
use lib.ListN.{length, get_or, take}
use Rattle.whole.specs.Cases.{if}
use Rattle.theory.specs.Widths.{conditions_most}
use Rattle.theory.specs.Diagram.{Tree}
use Rattle.theory.specs.Meaning.{State, env, nth, chance_at, weight}
use Rattle.theory.specs.Verdict.{chance_slot, from_to}
use Rattle.theory.specs.Load.{find_slot, action_of, site_at}
use Rattle.theory.specs.Value.{bits}
use Rattle.theory.specs.Load.{loaded_entries}
use Rattle.model.proofs.Accepted.{site_accepted}
use Rattle.plain_pass.specs.declared.Point.{Point}
use Rattle.plain_pass.specs.Pass.{StateStands}
use Rattle.plain_pass.proofs.Actions.{chance_within}
use Rattle.plain_step.specs.PointState.{ModelReady, StandingPoint, SiteAction, Chance, ChancesAre, OutOf, Weighs}
use Rattle.plain_step.proofs.Lists.{map_twice, listed, within_widths, alone}

-- ---- chances

module _ (B : List ℕ) (a k : ℕ) (x : Point) (st : StandingPoint B x) (A : SiteAction B a) (low : 1 ≤ k) (n : ℕ) (e : n ≡ (site_at B).conditions) where
  abbrev tree : Tree
  tree = find_slot (chance_slot a k) (loaded_entries B)

  pub chance_beyond : n < k → Chance B a k x 0
  chance_beyond h = record {
    bounded = omega arith;
    is = λ s p. ap (λ (b : Bool). if b (chance_at (env s []) tree) 0) (sym (lt-leb k (site_at B).conditions (omega arith)));
  }

  pub chance_found : k ≤ n → (w : ℕ) → ((s : State) (z : List Bool) → StateStands (site_at B).levels (site_at B).conditions x s z → w ≡ chance_at (env s z) tree) → Chance B a k x w
  chance_found h w f = record {
    bounded = subst (λ (y : ℕ). y ≤ (site_at B).weights) (sym (f st.state [] (alone B x st.state st.ready st.spells st.alone)))
        (chance_within B st.ready.accepted a k A.0 A.1 low (omega arith) (env st.state []));
    is = λ s p. f s [] (alone B x s st.ready p st.alone) ∙ ap (λ (b : Bool). if b (chance_at (env s []) tree) 0) (sym (le-leb k (site_at B).conditions (omega arith)));
  }

-- one by one
four_of : (c : List ℕ) → length c ≡ conditions_most → c ≡ get_or c 0 0 ∷ get_or c 1 0 ∷ get_or c 2 0 ∷ get_or c 3 0 ∷ []
four_of [] e = absurd (omega arith)
four_of (x ∷ []) e = absurd (omega arith)
four_of (x ∷ y ∷ []) e = absurd (omega arith)
four_of (x ∷ y ∷ z ∷ []) e = absurd (omega arith)
four_of (x ∷ y ∷ z ∷ u ∷ []) e = refl
four_of (x ∷ y ∷ z ∷ u ∷ v ∷ c) e = absurd (omega arith)

pub chances_are : (B : List ℕ) (a : ℕ) (x : Point) → ModelReady B → (c : List ℕ) → length c ≡ conditions_most → ((k : ℕ) → k < conditions_most → Chance B a (k + 1) x (get_or c k 0)) → ChancesAre B a x c
unfolding action_of
chances_are B a x ok c e h = record {
  bounded = record { long = e; each = λ k l. (h k l).bounded };
  are = λ s p. map_twice (chance_at (env s [])) (λ k. find_slot (chance_slot a k) (loaded_entries B)) (from_to 1 (site_at B).conditions)
      ∙ listed (λ k. chance_at (env s []) (find_slot (chance_slot a k) (loaded_entries B))) (get_or c 0 0) (get_or c 1 0) (get_or c 2 0) (get_or c 3 0) (site_at B).conditions (within_widths B ok).0
      (among s 1 ((h 0 (omega arith)).is s p)) (among s 2 ((h 1 (omega arith)).is s p)) (among s 3 ((h 2 (omega arith)).is s p)) (among s 4 ((h 3 (omega arith)).is s p))
      ∙ ap (take (site_at B).conditions) (sym (four_of c e));
}
  where
    among : (s : State) (k : ℕ) {w : ℕ} → w ≡ if (leb k (site_at B).conditions) (chance_at (env s []) (find_slot (chance_slot a k) (loaded_entries B))) 0 → k ≤ (site_at B).conditions
        → w ≡ chance_at (env s []) (find_slot (chance_slot a k) (loaded_entries B))
    among s k e h = e ∙ ap (λ (b : Bool). if b (chance_at (env s []) (find_slot (chance_slot a k) (loaded_entries B))) 0) (le-leb k (site_at B).conditions h)

-- ---- a factor

abbrev side : Bool → ℕ → ℕ → ℕ
side b w W = if b w (W - w)

abbrev part : ℕ → ℕ → ℕ → ℕ → ℕ → ℕ
part n W k w r = if (leb k n) (side (nth (bits n r) k) w W) 1

module _ (n W k w r : ℕ) where
  pub factor_one : n < k → 1 ≡ part n W k w r
  factor_one h = ap (λ (b : Bool). if b (side (nth (bits n r) k) w W) 1) (sym (lt-leb k n h))

  pub factor_is : k ≤ n → (b : Bool) → nth (bits n r) k ≡ b → side b w W ≡ part n W k w r
  factor_is h b e = ap (λ (c : Bool). side c w W) (sym e) ∙ ap (λ (b : Bool). if b (side (nth (bits n r) k) w W) 1) (sym (le-leb k n h))

-- a factor is at most 100
side_most : (b : Bool) (w W : ℕ) → w ≤ W → W ≤ 100 → side b w W ≤ 100
side_most true w W h k = omega arith
side_most false w W h k = omega arith

part_most : (t b : Bool) (w W : ℕ) → w ≤ W → W ≤ 100 → if t (side b w W) 1 ≤ 100
part_most true b w W h k = side_most b w W h k
part_most false b w W h k = omega arith

-- ---- the weight

-- the factors of the first i conditions
unfoldable pub product : ℕ → ℕ → List ℕ → ℕ → ℕ → ℕ
product n W c r zero = 1
product n W c r (suc i) = product n W c r i * part n W (i + 1) (get_or c i 0) r

one : (a : ℕ) → 1 * a * 1 * 1 * 1 ≡ a * 1
one a = omega arith

two : (a b : ℕ) → 1 * a * b * 1 * 1 ≡ a * (b * 1)
two a b = omega arith

three : (a b c : ℕ) → 1 * a * b * c * 1 ≡ a * (b * (c * 1))
three a b c = omega arith

four : (a b c d : ℕ) → 1 * a * b * c * d ≡ a * (b * (c * (d * 1)))
four a b c d = omega arith

weight_parts : (W c1 c2 c3 c4 r n : ℕ) → n ≤ 4 → product n W (c1 ∷ c2 ∷ c3 ∷ c4 ∷ []) r 4 ≡ weight W (take n (c1 ∷ c2 ∷ c3 ∷ c4 ∷ [])) (bits n r)
unfolding weight bits nth product
weight_parts W c1 c2 c3 c4 r zero h = refl
weight_parts W c1 c2 c3 c4 r (suc zero) h = one _
weight_parts W c1 c2 c3 c4 r (suc (suc zero)) h = two _ _
weight_parts W c1 c2 c3 c4 r (suc (suc (suc zero))) h = three _ _ _
weight_parts W c1 c2 c3 c4 r (suc (suc (suc (suc zero)))) h = four _ _ _ _
weight_parts W c1 c2 c3 c4 r (suc (suc (suc (suc (suc n))))) h = absurd (omega arith)

module _ (B : List ℕ) (ok : ModelReady B) (c : List ℕ) (o : OutOf (site_at B).weights c) (r n W : ℕ) (en : n ≡ (site_at B).conditions) (eW : W ≡ (site_at B).weights) where
  abbrev P : ℕ → ℕ
  P i = product n W c r i

  -- a factor is at most 100
  most : (i : ℕ) → i < conditions_most → part n W (i + 1) (get_or c i 0) r ≤ 100
  most i h = part_most (leb (i + 1) n) (nth (bits n r) (i + 1)) (get_or c i 0) W (omega (arith, o.each i h)) (omega (arith, (site_accepted B ok.accepted).weights.1))

  step : (i m : ℕ) → i < conditions_most → P i ≤ m → P (suc i) ≤ m * 100
  unfolding product
  step i m h k = mul-le-mul {n₁ = P i} {m₁ = part n W (i + 1) (get_or c i 0) r} {n₂ = m} {m₂ = 100} k (most i h)

  p0 : P 0 ≤ 1
  unfolding product
  p0 = omega arith

  product_most : (i : ℕ) → i ≤ conditions_most → P i ≤ 100000000
  product_most i h = go i h
    where
      p1 : P 1 ≤ 100
      p1 = step 0 1 (omega arith) p0

      p2 : P 2 ≤ 10000
      p2 = step 1 100 (omega arith) p1

      p3 : P 3 ≤ 1000000
      p3 = step 2 10000 (omega arith) p2

      p4 : P 4 ≤ 100000000
      p4 = step 3 1000000 (omega arith) p3

      go : (i : ℕ) → i ≤ conditions_most → P i ≤ 100000000
      go zero h = omega (arith, p0)
      go (suc zero) h = omega (arith, p1)
      go (suc (suc zero)) h = omega (arith, p2)
      go (suc (suc (suc zero))) h = omega (arith, p3)
      go (suc (suc (suc (suc zero)))) h = p4
      go (suc (suc (suc (suc (suc i))))) h = absurd (omega arith)

  module _ (i : ℕ) (h : i < conditions_most) {w f : ℕ} (e : w ≡ P i) (q : f ≡ part n W (i + 1) (get_or c i 0) r) where
    pub product_on : w * f ≡ P (i + 1)
    unfolding product
    product_on = ap₂ (λ (a b : ℕ). a * b) e q ∙ ap P (let z : suc i ≡ i + 1 = omega arith in z)

    pub product_fits : w * f ≤ 100000000
    product_fits = omega (arith, product_on, product_most (i + 1) (omega arith))

  pub weighs : {i w : ℕ} → i ≡ conditions_most → w ≡ P i → Weighs (site_at B) c r w
  weighs {i} {w} z e = record {
    is = e ∙ ap P z ∙ (λ j. product (en j) (eW j) (four_of c o.long j) r 4)
        ∙ weight_parts (site_at B).weights (get_or c 0 0) (get_or c 1 0) (get_or c 2 0) (get_or c 3 0) r (site_at B).conditions (within_widths B ok).0
        ∙ ap (λ (l : List ℕ). weight (site_at B).weights (take (site_at B).conditions l) (bits (site_at B).conditions r)) (sym (four_of c o.long));
    bounded = omega (arith, e, ap P z, product_most 4 (omega arith));
  }
