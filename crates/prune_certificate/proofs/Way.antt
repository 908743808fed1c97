-- The way along a path: what is left of turns and multipliers.
use mathlib.Core.Path.{◌≡◌, refl, sym, ap, ap₂, ◌∙◌, subst, subst₂}
use mathlib.Core.Logic.{◌⊎◌, inl, inr}
use mathlib.Core.Bool.{Bool, true, false, not, ◌&&◌}
use mathlib.Core.List.{List, [], ◌∷◌}
use Prim.Native.Nat.{ℕ, zero, suc, ◌+◌, ◌-◌, ◌*◌, ◌≤◌, ◌<◌}
use native.Mathlib.Omega.{arith}
use borrow.Author.Tests.{ne_eqb, eq-eqb}
use lib.Dec.{T, eqb}
use lib.IntN.{ℤ, pos, neg_ℤ, nat_abs, ◌+ℤ◌, ◌*ℤ◌, +ℤ_assoc, +ℤ_idl, +ℤ_idr, *ℤ-zero}
use lib.ListN.{length, get_or, drop, length-drop}
use lib.Seq.{drop-cons, drop-length}
use lib.Signed.{le_z}
use Rattle.whole.specs.Cases.{if, by_test, both, is_true, from_true}
use Rattle.whole.specs.Int.{ring}
use Rattle.whole.specs.Linears.{numbers}
use Rattle.whole.specs.declared.Numerator.{Numerator}
use Rattle.whole.specs.Numerator.{number}
use Rattle.whole.specs.Within.{Small}
use Rattle.theory.specs.Diagram.{Linear, add_list, scale_list, ◌⊞◌, ◌⊠◌}
use Rattle.theory.specs.Valid.{all}
use Rattle.theory.specs.Verdict.{or}
use Rattle.theory.specs.Value.{node_word, node_linear}
use Rattle.prune_paths.specs.Prune.{diagram_at, fits, Side, along, turned, added, low_used}
use Rattle.prune_certificate.specs.Path.{GoodNode, is_test, tests, goes, shape_of, number_at, part, high_most, Joined, GivenMultiplier, Proposed, low_here}
use Rattle.prune_certificate.proofs.Rows.{Step, a_turn}
use Rattle.prune_certificate.proofs.Sums.{tests_most, word_is, so_test}

-- ---- counting the tests of a path

pub record Counting (W : List ℤ) (root : ℕ) (turns : List ℕ) (r count i : ℕ) : Type 0 where
  pub node : GoodNode W r
  pub within : i ≤ length turns
  pub most : count ≤ i + 1
  pub is : if (fits (drop i turns) (diagram_at W r)) (count + length (along (drop i turns) (diagram_at W r))) 0 ≡ shape_of turns (diagram_at W root)

pub counting_starts : (W : List ℤ) (root : ℕ) (turns : List ℕ) → GoodNode W root → Counting W root turns root 1 0
unfolding shape_of
counting_starts W root turns t = record {
  node = t;
  within = omega arith;
  most = omega arith;
  is = let z : 1 + length (along turns (diagram_at W root)) ≡ suc (length (along turns (diagram_at W root))) = omega arith in ap (λ (k : ℕ). if (fits turns (diagram_at W root)) k 0) z;
}

module _ (W : List ℤ) (root : ℕ) (turns : List ℕ) (r count i : ℕ) (c : Counting W root turns r count i) (h : i < length turns) where
  abbrev b : ℕ
  b = get_or turns i 0

  next : drop i turns ≡ get_or turns i 0 ∷ drop (suc i) turns
  next = drop-cons turns i 0 h

  pub counting_stops : (s : ℕ) → s ≡ goes W r b → s ≡ 0 → 0 ≡ shape_of turns (diagram_at W root)
  counting_stops s q z = go (a_turn W r b (drop (suc i) turns) c.node s q)
    where
      go : ((s ≡ 0) × (fits (get_or turns i 0 ∷ drop (suc i) turns) (diagram_at W r) ≡ false)) ⊎ Step W r (get_or turns i 0) s (drop (suc i) turns) → 0 ≡ shape_of turns (diagram_at W root)
      go (inl d) =
          sym (ap (λ x. if x (count + length (along (drop i turns) (diagram_at W r))) 0) (ap (λ (l : List ℕ). fits l (diagram_at W r)) next ∙ d.1)) ∙ c.is
      go (inr d) = absurd (omega (arith, d.node.above))

  counted_by : (l : List Side) (x : Side) (k : Bool) → count + length (if k (x ∷ l) l) ≡ count + if k 1 0 + length l
  counted_by l x true = omega arith
  counted_by l x false = omega arith

  pub counting_goes : (s n : ℕ) → s ≡ goes W r b → n ≡ tests W r → (s ≡ 0 → ⊥) → Counting W root turns s (count + n) (i + 1)
  unfolding tests
  counting_goes s n q e z = go (a_turn W r b (drop (suc i) turns) c.node s q)
    where
      go : ((s ≡ 0) × (fits (get_or turns i 0 ∷ drop (suc i) turns) (diagram_at W r) ≡ false)) ⊎ Step W r (get_or turns i 0) s (drop (suc i) turns) → Counting W root turns s (count + n) (i + 1)
      go (inl d) = absurd (z d.0)
      go (inr d) =
          let one : suc i ≡ i + 1 = omega arith in
          let l = along (drop (suc i) turns) (diagram_at W s) in
          record {
            node = d.node;
            within = omega arith;
            most = omega (arith, c.most, tests_most W r n e);
            is = subst (λ (j : ℕ). if (fits (drop j turns) (diagram_at W s)) (count + n + length (along (drop j turns) (diagram_at W s))) 0 ≡ shape_of turns (diagram_at W root)) one
                (ap₂ (λ x (k : ℕ). if x k 0) (sym (ap (λ (l : List ℕ). fits l (diagram_at W r)) next ∙ d.fit))
                (ap (λ (k : ℕ). count + k + length l) e ∙ sym (ap (λ (m : List ℕ). count + length (along m (diagram_at W r))) next ∙ (ap (λ (m : List Side). count + length m) d.sides ∙ counted_by l _ (is_test W r))))
                ∙ c.is);
          }

pub counting_ends : (W : List ℤ) (root : ℕ) (turns : List ℕ) (r count i : ℕ) → Counting W root turns r count i → length turns ≤ i → count ≡ shape_of turns (diagram_at W root)
unfolding fits along
counting_ends W root turns r count i c h =
    let e : i ≡ length turns = omega (arith, c.within) in
    let d = ap (λ (j : ℕ). drop j turns) e ∙ drop-length turns in
    let z : count ≡ count + 0 = omega arith in
    z ∙ (sym (ap (λ (l : List ℕ). if (fits l (diagram_at W r)) (count + length (along l (diagram_at W r))) 0) d) ∙ c.is)

-- ---- a path that fits, with its multipliers

pub record Way (W : List ℤ) (root : ℕ) (turns : List ℕ) (ks : List ℤ) (r i j : ℕ) : Type 0 where
  pub node : GoodNode W r
  pub most : r ≤ root
  pub within : i ≤ length turns
  pub used : j ≤ i
  pub fit : T (fits (drop i turns) (diagram_at W r))
  pub count : length (drop j ks) ≡ length (along (drop i turns) (diagram_at W r))
  pub signs : T (all (le_z (pos 0)) (drop j ks))

pub way_starts : (W : List ℤ) (root : ℕ) (turns : List ℕ) (ks : List ℤ) → Proposed W root turns ks → Way W root turns ks root 0 0
way_starts W root turns ks p = record { node = p.node; most = omega arith; within = omega arith; used = omega arith; fit = p.fit; count = p.count; signs = p.signs }

-- node r is a test with its multiplier, or no test
data Here (W : List ℤ) (turns : List ℕ) (ks : List ℤ) (r i j s n : ℕ) : Type 0 where
  a_test : T (is_test W r) → n ≡ 1
      → along (drop i turns) (diagram_at W r) ≡ record { high = eqb (get_or turns i 0) 1; lin = node_linear W r } ∷ along (drop (suc i) turns) (diagram_at W s)
      → drop j ks ≡ get_or ks j (pos 0) ∷ drop (suc j) ks → j < length ks → Here W turns ks r i j s n
  a_condition : is_test W r ≡ false → n ≡ 0 → along (drop i turns) (diagram_at W r) ≡ along (drop (suc i) turns) (diagram_at W s) → Here W turns ks r i j s n

module _ (W : List ℤ) (root : ℕ) (turns : List ℕ) (ks : List ℤ) (r i j : ℕ) (c : Way W root turns ks r i j) (h : i < length turns) where
  way_next : drop i turns ≡ get_or turns i 0 ∷ drop (suc i) turns
  way_next = drop-cons turns i 0 h

  way_step : (s : ℕ) → s ≡ goes W r (get_or turns i 0) → Step W r (get_or turns i 0) s (drop (suc i) turns)
  way_step s q = go (a_turn W r (get_or turns i 0) (drop (suc i) turns) c.node s q)
    where
      go : ((s ≡ 0) × (fits (get_or turns i 0 ∷ drop (suc i) turns) (diagram_at W r) ≡ false)) ⊎ Step W r (get_or turns i 0) s (drop (suc i) turns) → Step W r (get_or turns i 0) s (drop (suc i) turns)
      go (inl d) = absurd (subst T (ap (λ (l : List ℕ). fits l (diagram_at W r)) way_next ∙ d.1) c.fit)
      go (inr d) = d

  way_here : (s n : ℕ) → s ≡ goes W r (get_or turns i 0) → n ≡ tests W r → Here W turns ks r i j s n
  unfolding tests
  way_here s n q e =
      let d = way_step s q in
      let sides = ap (λ (l : List ℕ). along l (diagram_at W r)) way_next ∙ d.sides in
      go (is_test W r) refl sides
    where
      some : (l : List Side) (x : Side) → along (drop i turns) (diagram_at W r) ≡ x ∷ l → j < length ks
      some l x y = omega (arith, c.count, length-drop j ks, ap length y)

      go : (k : Bool) → is_test W r ≡ k
          → along (drop i turns) (diagram_at W r) ≡ if k (record { high = eqb (get_or turns i 0) 1; lin = node_linear W r } ∷ along (drop (suc i) turns) (diagram_at W s)) (along (drop (suc i) turns) (diagram_at W s))
          → Here W turns ks r i j s n
      go true u y = let l = some _ _ y in a_test (from_true u) (e ∙ ap (λ b. if b 1 0) u) y (drop-cons ks j (pos 0) l) l
      go false u y = a_condition u (e ∙ ap (λ b. if b 1 0) u) y

  pub way_given : GivenMultiplier W r ks j
  unfolding all
  way_given = go (way_here (goes W r (get_or turns i 0)) (tests W r) refl refl)
    where
      go : Here W turns ks r i j (goes W r (get_or turns i 0)) (tests W r) → GivenMultiplier W r ks j
      go (a_test t n y d l) = record {
        there = λ _. l;
        sign = λ _. (both (le_z (pos 0) (get_or ks j (pos 0))) (all (le_z (pos 0)) (drop (suc j) ks)) (subst (λ (m : List ℤ). T (all (le_z (pos 0)) m)) d c.signs)).0;
      }
      go (a_condition t n y) = record { there = λ u. absurd (subst T t u); sign = λ u. absurd (subst T t u) }

  pub way_falls : (s : ℕ) → s ≡ goes W r (get_or turns i 0) → s < r
  way_falls s q = (way_step s q).falls

  pub way_goes : (s n : ℕ) → s ≡ goes W r (get_or turns i 0) → n ≡ tests W r → Way W root turns ks s (i + 1) (j + n)
  unfolding all
  way_goes s n q e = go (way_here s n q e) (way_step s q)
    where
      one : suc i ≡ i + 1
      one = omega arith

      put : (k : ℕ) → k ≤ suc i → Step W r (get_or turns i 0) s (drop (suc i) turns) → length (drop k ks) ≡ length (along (drop (suc i) turns) (diagram_at W s)) → T (all (le_z (pos 0)) (drop k ks)) → Way W root turns ks s (suc i) k
      put k m d a b = record {
        node = d.node;
        most = omega (arith, d.falls, c.most);
        within = h;
        used = m;
        fit = subst T (ap (λ (l : List ℕ). fits l (diagram_at W r)) way_next ∙ d.fit) c.fit;
        count = a;
        signs = b;
      }

      go : Here W turns ks r i j s n → Step W r (get_or turns i 0) s (drop (suc i) turns) → Way W root turns ks s (i + 1) (j + n)
      go (a_test t z y d l) x =
          let k : suc j ≡ j + n = omega arith in
          subst₂ (λ (a b : ℕ). Way W root turns ks s a b) one k
          (put (suc j) (omega (arith, c.used)) x (omega (arith, ap length d, ap length y, c.count))
          (both (le_z (pos 0) (get_or ks j (pos 0))) (all (le_z (pos 0)) (drop (suc j) ks)) (subst (λ (m : List ℤ). T (all (le_z (pos 0)) m)) d c.signs)).1)
      go (a_condition t z y) x =
          let k : j ≡ j + n = omega arith in
          subst₂ (λ (a b : ℕ). Way W root turns ks s a b) one k (put j (omega (arith, c.used)) x (c.count ∙ ap length y) c.signs)

-- ---- the sum

getD_add : (a b : List ℤ) (i : ℕ) → get_or (add_list a b) i (pos 0) ≡ get_or a i (pos 0) +ℤ get_or b i (pos 0)
unfolding add_list
getD_add [] b i = sym (+ℤ_idl (get_or b i (pos 0)))
getD_add (x ∷ a) [] i = sym (+ℤ_idr (get_or (x ∷ a) i (pos 0)))
getD_add (x ∷ a) (y ∷ b) zero = refl
getD_add (x ∷ a) (y ∷ b) (suc i) = getD_add a b i

getD_scale : (k : ℤ) (a : List ℤ) (i : ℕ) → get_or (scale_list k a) i (pos 0) ≡ k *ℤ get_or a i (pos 0)
unfolding scale_list
getD_scale k [] i = sym (*ℤ-zero k)
getD_scale k (x ∷ a) zero = refl
getD_scale k (x ∷ a) (suc i) = getD_scale k a i

number_add : (w : ℕ) (p q : Linear) → number_at w (p ⊞ q) ≡ number_at w p +ℤ number_at w q
unfolding number_at ◌⊞◌
number_add w p q = by_test (eqb w numbers)
    (λ b. if b (p.const +ℤ q.const) (get_or (add_list p.coeffs q.coeffs) (w - 1) (pos 0)) ≡ if b p.const (get_or p.coeffs (w - 1) (pos 0)) +ℤ if b q.const (get_or q.coeffs (w - 1) (pos 0)))
    (λ _. refl) (λ _. getD_add p.coeffs q.coeffs (w - 1))

number_scale : (w : ℕ) (k : ℤ) (p : Linear) → number_at w (k ⊠ p) ≡ k *ℤ number_at w p
unfolding number_at ◌⊠◌
number_scale w k p = by_test (eqb w numbers)
    (λ b. if b (k *ℤ p.const) (get_or (scale_list k p.coeffs) (w - 1) (pos 0)) ≡ k *ℤ if b p.const (get_or p.coeffs (w - 1) (pos 0)))
    (λ _. refl) (λ _. getD_scale k p.coeffs (w - 1))

number_none : (w : ℕ) → number_at w (record { coeffs = []; const = pos 0 }) ≡ pos 0
unfolding number_at
number_none w = by_test (eqb w numbers) (λ b. if b (pos 0) (pos 0) ≡ pos 0) (λ _. refl) (λ _. refl)

-- as far as the sum is made
pub record Adding (W : List ℤ) (root : ℕ) (turns : List ℕ) (ks : List ℤ) (w r : ℕ) (total : Numerator) (i j : ℕ) : Type 0 where
  pub way : Way W root turns ks r i j
  pub is : number total +ℤ number_at w (added (along (drop i turns) (diagram_at W r)) (drop j ks)) ≡ number_at w (added (along turns (diagram_at W root)) ks)
  pub bounded : nat_abs total.high ≤ (root - r) * high_most

pub adding_starts : (W : List ℤ) (root : ℕ) (turns : List ℕ) (ks : List ℤ) (w : ℕ) → Proposed W root turns ks → Adding W root turns ks w root (record { low = 0; high = pos 0 }) 0 0
unfolding number
adding_starts W root turns ks w p = record { way = way_starts W root turns ks p; is = simp ring; bounded = omega arith }

module _ (W : List ℤ) (root : ℕ) (turns : List ℕ) (ks : List ℤ) (w r : ℕ) (total : Numerator) (i j : ℕ) (c : Adding W root turns ks w r total i j) (h : i < length turns) where
  -- at most 2³² nodes
  pub adding_small : root < 4294967296 → Small total.high
  adding_small l = record { small = omega (arith, c.bounded) }

  abbrev turn : ℕ
  turn = get_or turns i 0

  abbrev k : ℤ
  k = get_or ks j (pos 0)

  -- what is left of the sum, after node r and what it adds
  left_goes : (s n : ℕ) → 1 ≤ w → w ≤ numbers → Here W turns ks r i j s n
      → number_at w (added (along (drop i turns) (diagram_at W r)) (drop j ks)) ≡ part W r w turn k +ℤ number_at w (added (along (drop (i + 1) turns) (diagram_at W s)) (drop (j + n) ks))
  unfolding added turned part
  left_goes s n lo hi (a_test t z y d l) =
      let a : suc i ≡ i + 1 = omega arith in
      let b : suc j ≡ j + n = omega arith in
      let L = along (drop (suc i) turns) (diagram_at W s) in
      let m : ℤ = if (eqb turn 1) k (neg_ℤ k) in
      ap₂ (λ (u : List Side) (v : List ℤ). number_at w (added u v)) y d
      ∙ (number_add w (m ⊠ node_linear W r) (added L (drop (suc j) ks))
      ∙ (ap₂ (λ (u v : ℤ). u +ℤ v)
      (number_scale w m (node_linear W r) ∙ (ap (λ (u : ℤ). m *ℤ u) (word_is W r w lo hi) ∙ sym (ap (λ b. if b (m *ℤ node_word W r w) (pos 0)) (is_true (is_test W r) t))))
      (ap₂ (λ (u v : ℕ). number_at w (added (along (drop u turns) (diagram_at W s)) (drop v ks))) a b)))
  left_goes s n lo hi (a_condition t z y) =
      let a : suc i ≡ i + 1 = omega arith in
      let b : j ≡ j + n = omega arith in
      let m : ℤ = if (eqb turn 1) k (neg_ℤ k) in
      let R = number_at w (added (along (drop (i + 1) turns) (diagram_at W s)) (drop (j + n) ks)) in
      ap (λ (u : List Side). number_at w (added u (drop j ks))) y
      ∙ (ap₂ (λ (u v : ℕ). number_at w (added (along (drop u turns) (diagram_at W s)) (drop v ks))) a b
      ∙ sym (ap (λ b. if b (m *ℤ node_word W r w) (pos 0) +ℤ R) t ∙ +ℤ_idl R))

  pub adding_goes : (x : Numerator) (s n : ℕ) → 1 ≤ w → w ≤ numbers → Joined total (part W r w turn k) x → s ≡ goes W r turn → n ≡ tests W r → Adding W root turns ks w s x (i + 1) (j + n)
  adding_goes x s n lo hi u q e =
      let way = c.way in
      let f = way_falls W root turns ks r i j way h s q in
      let R = number_at w (added (along (drop (i + 1) turns) (diagram_at W s)) (drop (j + n) ks)) in
      record {
        way = way_goes W root turns ks r i j way h s n q e;
        is = ap (λ (z : ℤ). z +ℤ R) u.is ∙ (+ℤ_assoc (number total) (part W r w turn k) R
            ∙ (sym (ap (λ (z : ℤ). number total +ℤ z) (left_goes s n lo hi (way_here W root turns ks r i j way h s n q e))) ∙ c.is));
        bounded = omega (arith, u.bounded, c.bounded, f, way.most);
      }

pub adding_ends : (W : List ℤ) (root : ℕ) (turns : List ℕ) (ks : List ℤ) (w r : ℕ) (total : Numerator) (i j : ℕ) → Adding W root turns ks w r total i j → length turns ≤ i
    → number total ≡ number_at w (added (along turns (diagram_at W root)) ks)
unfolding added along
adding_ends W root turns ks w r total i j c h =
    let e : i ≡ length turns = omega (arith, c.way.within) in
    let d = ap (λ (j : ℕ). drop j turns) e ∙ drop-length turns in
    sym (+ℤ_idr (number total)) ∙ (sym (ap (λ (l : List ℕ). number total +ℤ number_at w (added (along l (diagram_at W r)) (drop j ks))) d ∙ ap (λ (z : ℤ). number total +ℤ z) (number_none w)) ∙ c.is)

-- ---- low sides

pub record Looking (W : List ℤ) (root : ℕ) (turns : List ℕ) (ks : List ℤ) (r i j : ℕ) : Type 0 where
  pub way : Way W root turns ks r i j
  pub is : low_used (along (drop i turns) (diagram_at W r)) (drop j ks) ≡ low_used (along turns (diagram_at W root)) ks

pub looking_starts : (W : List ℤ) (root : ℕ) (turns : List ℕ) (ks : List ℤ) → Proposed W root turns ks → Looking W root turns ks root 0 0
looking_starts W root turns ks p = record { way = way_starts W root turns ks p; is = refl }

module _ (W : List ℤ) (root : ℕ) (turns : List ℕ) (ks : List ℤ) (r i j : ℕ) (c : Looking W root turns ks r i j) (h : i < length turns) where
  low_goes : (s n : ℕ) → Here W turns ks r i j s n
      → low_used (along (drop i turns) (diagram_at W r)) (drop j ks) ≡ or (low_here n (get_or turns i 0) (get_or ks j (pos 0))) (low_used (along (drop (i + 1) turns) (diagram_at W s)) (drop (j + n) ks))
  unfolding low_used low_here
  low_goes s n (a_test t z y d l) =
      let a : suc i ≡ i + 1 = omega arith in
      let b : suc j ≡ j + n = omega arith in
      let turn = get_or turns i 0 in
      let k = get_or ks j (pos 0) in
      ap₂ (λ (u : List Side) (v : List ℤ). low_used u v) y d
      ∙ ap₂ (λ x y. or (x && (not (eqb turn 1) && le_z (pos 1) k)) y) (sym (eq-eqb n 1 z)) (ap₂ (λ (u v : ℕ). low_used (along (drop u turns) (diagram_at W s)) (drop v ks)) a b)
  low_goes s n (a_condition t z y) =
      let a : suc i ≡ i + 1 = omega arith in
      let b : j ≡ j + n = omega arith in
      let turn = get_or turns i 0 in
      let k = get_or ks j (pos 0) in
      ap (λ (u : List Side). low_used u (drop j ks)) y
      ∙ ap₂ (λ x y. or (x && (not (eqb turn 1) && le_z (pos 1) k)) y) (sym (ne_eqb n 1 (λ q. omega arith))) (ap₂ (λ (u v : ℕ). low_used (along (drop u turns) (diagram_at W s)) (drop v ks)) a b)

  pub looking_finds : (n : ℕ) (b : Bool) → n ≡ tests W r → b ≡ low_here n (get_or turns i 0) (get_or ks j (pos 0)) → b ≡ true → true ≡ low_used (along turns (diagram_at W root)) ks
  looking_finds n b e p q =
      let s = goes W r (get_or turns i 0) in
      sym (low_goes s n (way_here W root turns ks r i j c.way h s n refl e) ∙ ap (λ x. or x (low_used (along (drop (i + 1) turns) (diagram_at W s)) (drop (j + n) ks))) (sym p ∙ q)) ∙ c.is

  pub looking_goes : (s n : ℕ) (b : Bool) → s ≡ goes W r (get_or turns i 0) → n ≡ tests W r → b ≡ low_here n (get_or turns i 0) (get_or ks j (pos 0)) → b ≡ false → Looking W root turns ks s (i + 1) (j + n)
  looking_goes s n b g e p q = record {
    way = way_goes W root turns ks r i j c.way h s n g e;
    is = sym (low_goes s n (way_here W root turns ks r i j c.way h s n g e) ∙ ap (λ x. or x (low_used (along (drop (i + 1) turns) (diagram_at W s)) (drop (j + n) ks))) (sym p ∙ q)) ∙ c.is;
  }

  pub looking_given : (n : ℕ) → n ≡ tests W r → n ≡ 1 → j < length ks
  looking_given n e q = (way_given W root turns ks r i j c.way h).there (so_test W r n e q)

pub looking_ends : (W : List ℤ) (root : ℕ) (turns : List ℕ) (ks : List ℤ) (r i j : ℕ) → Looking W root turns ks r i j → length turns ≤ i → false ≡ low_used (along turns (diagram_at W root)) ks
unfolding low_used along
looking_ends W root turns ks r i j c h =
    let e : i ≡ length turns = omega (arith, c.way.within) in
    let d = ap (λ (j : ℕ). drop j turns) e ∙ drop-length turns in
    sym (ap (λ (l : List ℕ). low_used (along l (diagram_at W r)) (drop j ks)) d) ∙ c.is
