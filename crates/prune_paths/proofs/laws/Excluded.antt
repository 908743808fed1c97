-- Paths that no state can take: an accepted certificate excludes every state, and neither the cut nor making anew changes what a state reads.
use Rattle.std.specs.Prelude.{◌≡◌, Bool, not, ◌&&◌, ℕ, zero, suc, ◌+◌, ◌-◌, ◌*◌, ◌≤◌, ◌<◌, eqb, ℤ, negsuc, neg_ℤ, ◌+ℤ◌, ◌*ℤ◌, ◌≤ℤ◌}
use Rattle.std.proofs.Math.Path.{refl, ap}
use Rattle.std.proofs.Common.{◌∙◌, arith, mul-le-mul_left, mul-le-mul_right}
use Rattle.std.proofs.Math.Bool.{true, false}
use mathlib.Core.List.{List, [], ◌∷◌}
use Rattle.std.proofs.Math.Dec.{T, compare_is_eq}
use Rattle.std.proofs.Math.IntN.{pos}
use Rattle.std.specs.Int.Signed.{le_z, le_z_yes}
use Rattle.whole.specs.Cases.{if, both, and_in, from_true}
use Rattle.whole.specs.Int.{atom, up, down, diff, ring, le_in}
use Rattle.theory.specs.Diagram.{Test, now, later, linear, Tree, leaf, branch, cmp_ℤ, zeros}
use Rattle.theory.specs.Computation.{make, result}
use Rattle.theory.specs.Rules.{node}
use Rattle.theory.specs.Meaning.{Env, dot, value, holds, at}
use Rattle.theory.specs.Valid.{all}
use Rattle.theory.specs.Verdict.{or}
use Rattle.prune_paths.specs.Prune.{Side, with_side, along, turned, added, low_used, contradicts, proves, takes, cut, remade}
use Rattle.theory.proofs.laws.Comps.{cmp_ℤ_eq}
use Rattle.theory.proofs.laws.Values.{value_add, value_scale, value_constant, node_at, over_at}

-- ---- the sum of a path's tests at a state that takes it

or_cases : (a b : Bool) (P : Type 0) → (T a → P) → (T b → P) → T (or a b) → P
or_cases true b P f g t = f tt
or_cases false b P f g t = g t

-- the multipliers of low sides, added
lows : List Side → List ℤ → ℕ
lows [] ks = 0
lows (s ∷ ss) [] = 0
lows (s ∷ ss) (k ∷ ks) = if s.high 0 (up k) + lows ss ks

lows_used : (ss : List Side) (ks : List ℤ) → T (low_used ss ks) → 1 ≤ lows ss ks
unfolding low_used lows
lows_used [] ks t = absurd t
lows_used (s ∷ ss) [] t = absurd t
lows_used (s ∷ ss) (k ∷ ks) t = or_cases (not s.high && le_z (pos 1) k) (low_used ss ks) (1 ≤ if s.high 0 (up k) + lows ss ks)
    (λ q. here s.high k q) (λ q. omega (arith, lows_used ss ks q)) t
  where
    here : (b : Bool) (k : ℤ) → T (not b && le_z (pos 1) k) → 1 ≤ if b 0 (up k) + lows ss ks
    here true k q = absurd q
    here false (pos n) q = omega (arith, le_in (pos 1) (pos n) (le_z_yes q))
    here false (negsuc n) q = absurd q

-- a side that is taken
abbrev on_side : ℤ → Bool → Bool
on_side v b = if b (le_z v (pos 0)) (not (le_z v (pos 0)))

high_step : (n : ℕ) (v r : ℤ) (m : ℕ) → v ≤ℤ pos 0 → (r +ℤ pos m) ≤ℤ pos 0 → (pos n *ℤ v +ℤ r +ℤ pos (0 + m)) ≤ℤ pos 0
high_step n v r m h k = rw (← atom v, ← atom r) (simp diff (omega (arith, mul-le-mul_left n (le_in v (pos 0) h), simp diff at (rw (← atom r) at k))))

above : (v : ℤ) → T (not (le_z v (pos 0))) → suc (down v) ≤ up v
above (pos zero) t = absurd t
above (pos (suc n)) t = omega arith
above (negsuc n) t = absurd t

low_step : (n : ℕ) (v r : ℤ) (m : ℕ) → suc (down v) ≤ up v → (r +ℤ pos m) ≤ℤ pos 0 → (neg_ℤ (pos n) *ℤ v +ℤ r +ℤ pos (n + m)) ≤ℤ pos 0
low_step n v r m h k = rw (← atom v, ← atom r) (simp diff (omega (arith, mul-le-mul_left n h, simp diff at (rw (← atom r) at k))))

module _ (e : Env) where
  abbrev obeys : Side → Bool
  obeys s = on_side (value e s.lin) s.high

  with_obeys : (b : Bool) (t : Test) (l : List Side) → holds e t ≡ b → T (all obeys l) → T (all obeys (with_side b t l))
  unfolding with_side all holds
  with_obeys b (now k) l q a = a
  with_obeys b (later k) l q a = a
  with_obeys b (linear p) l q a = and_in (on_side (value e p) b) (all obeys l) (judged b (le_z (value e p) (pos 0)) q) a
    where
      judged : (b c : Bool) → c ≡ b → T (if b c (not c))
      judged true c q = from_true q
      judged false c q = rw q tt

  -- the tests along a path that a state takes are as the turns say
  along_obeys : (bs : List ℕ) (F : Tree) → T (takes e bs F) → T (all obeys (along bs F))
  unfolding takes along all
  along_obeys [] F t = tt
  along_obeys (b ∷ bs) (leaf f) t = tt
  along_obeys (b ∷ bs) (branch u h l) t = go (holds e u) refl (eqb b 1) t (along_obeys bs h) (along_obeys bs l)
    where
      go : (c : Bool) → holds e u ≡ c → (d : Bool) → T (if c (d && takes e bs h) (not d && takes e bs l)) → (T (takes e bs h) → T (all obeys (along bs h)))
          → (T (takes e bs l) → T (all obeys (along bs l))) → T (all obeys (if d (with_side true u (along bs h)) (with_side false u (along bs l))))
      go true q true t i j = with_obeys true u (along bs h) q (i t)
      go true q false t i j = absurd t
      go false q true t i j = absurd t
      go false q false t i j = with_obeys false u (along bs l) q (j t)

  turned_value : (s : Side) (k : ℤ) → value e (turned s k) ≡ if s.high k (neg_ℤ k) *ℤ value e s.lin
  unfolding turned
  turned_value s k = value_scale e (if s.high k (neg_ℤ k)) s.lin

  none_value : value e (record { coeffs = []; const = pos 0 }) ≡ pos 0
  unfolding value dot
  none_value = simp ring

  -- the sum comes to no more than 0, less what the low sides have
  added_value : (ss : List Side) (ks : List ℤ) → T (all obeys ss) → T (all (le_z (pos 0)) ks) → (value e (added ss ks) +ℤ pos (lows ss ks)) ≤ℤ pos 0
  unfolding added lows all
  added_value [] ks a b = rw none_value (le_z_yes tt)
  added_value (s ∷ ss) [] a b = rw none_value (le_z_yes tt)
  added_value (s ∷ ss) (k ∷ ks) a b =
      let c = both (obeys s) (all obeys ss) a in
      let d = both (le_z (pos 0) k) (all (le_z (pos 0)) ks) b in
      rw (value_add e (turned s k) (added ss ks), turned_value s k) (go s.high k (value e s.lin) (value e (added ss ks)) (lows ss ks) c.0 d.0 (added_value ss ks c.1 d.1))
    where
      go : (b : Bool) (k v r : ℤ) (m : ℕ) → T (on_side v b) → T (le_z (pos 0) k) → (r +ℤ pos m) ≤ℤ pos 0 → (if b k (neg_ℤ k) *ℤ v +ℤ r +ℤ pos (if b 0 (up k) + m)) ≤ℤ pos 0
      go true (pos n) v r m o t h = high_step n v r m (le_z_yes o) h
      go false (pos n) v r m o t h = low_step n v r m (above v o) h
      go true (negsuc n) v r m o t h = absurd t
      go false (negsuc n) v r m o t h = absurd t

  above_none : (c : ℤ) (d m : ℕ) → 0 < d → T (le_z (pos 1) c) → (c *ℤ pos d +ℤ pos m) ≤ℤ pos 0 → ⊥
  above_none (pos zero) d m h t k = absurd t
  above_none (pos (suc n)) d m h t k = omega (arith, simp diff at k, mul-le-mul_right d (the_one n))
    where
      the_one : (n : ℕ) → 1 ≤ suc n
      the_one n = omega arith
  above_none (negsuc n) d m h t k = absurd t

  zero_none : (c : ℤ) (d m : ℕ) → c ≡ pos 0 → 1 ≤ m → (c *ℤ pos d +ℤ pos m) ≤ℤ pos 0 → ⊥
  zero_none c d m q h k = omega (arith, simp diff at (rw q at k))

  -- "Paths that no state can take": an accepted certificate excludes every state
  pub excluded : (bs : List ℕ) (F : Tree) (ks : List ℤ) → T (proves (along bs F) ks) → T (takes e bs F) → ⊥
  unfolding proves contradicts
  excluded bs F ks p t =
      let ss = along bs F in
      let sum = added ss ks in
      let c = sum.const in
      let d = both (all (le_z (pos 0)) ks) (zeros sum.coeffs && or (le_z (pos 1) c) (compare_is_eq (cmp_ℤ c (pos 0)) && low_used ss ks)) p in
      let z = both (zeros sum.coeffs) (or (le_z (pos 1) c) (compare_is_eq (cmp_ℤ c (pos 0)) && low_used ss ks)) d.1 in
      let bound : (c *ℤ pos e.den +ℤ pos (lows ss ks)) ≤ℤ pos 0 = rw (value_constant e sum z.0) at (added_value ss ks (along_obeys bs F t) d.0) in
      or_cases (le_z (pos 1) c) (compare_is_eq (cmp_ℤ c (pos 0)) && low_used ss ks) ⊥
      (λ q. above_none c e.den (lows ss ks) e.D>0 q bound)
      (λ q. let y = both (compare_is_eq (cmp_ℤ c (pos 0))) (low_used ss ks) q in zero_none c e.den (lows ss ks) (cmp_ℤ_eq c (pos 0) y.0) (lows_used ss ks y.1) bound)
      z.1

  -- ---- what is left gives every state the same leaf

  -- a state that does not take the whole path reads the same after the cut
  pub cut_at : (bs : List ℕ) (F : Tree) → (T (takes e bs F) → ⊥) → at e (cut bs F) ≡ at e F
  unfolding cut at takes
  cut_at [] F n = refl
  cut_at (b ∷ bs) (leaf f) n = refl
  cut_at (b ∷ []) (branch u h l) n = go (holds e u) refl (eqb b 1) n
    where
      go : (c : Bool) → holds e u ≡ c → (d : Bool) → (T (if c (d && true) (not d && true)) → ⊥) → at e (if d l h) ≡ if c (at e h) (at e l)
      go true q true n = absurd (n tt)
      go true q false n = refl
      go false q true n = refl
      go false q false n = absurd (n tt)
  cut_at (b ∷ c ∷ bs) (branch u h l) n = go (holds e u) refl (eqb b 1) n (cut_at (c ∷ bs) h) (cut_at (c ∷ bs) l)
    where
      go : (x : Bool) → holds e u ≡ x → (d : Bool) → (T (if x (d && takes e (c ∷ bs) h) (not d && takes e (c ∷ bs) l)) → ⊥)
          → ((T (takes e (c ∷ bs) h) → ⊥) → at e (cut (c ∷ bs) h) ≡ at e h) → ((T (takes e (c ∷ bs) l) → ⊥) → at e (cut (c ∷ bs) l) ≡ at e l)
          → at e (if d (branch u (cut (c ∷ bs) h) l) (branch u h (cut (c ∷ bs) l))) ≡ if x (at e h) (at e l)
      go true q true n i j = ap (λ b. if b (at e (cut (c ∷ bs) h)) (at e l)) q ∙ i n
      go true q false n i j = ap (λ b. if b (at e h) (at e (cut (c ∷ bs) l))) q
      go false q true n i j = ap (λ b. if b (at e (cut (c ∷ bs) h)) (at e l)) q
      go false q false n i j = ap (λ b. if b (at e h) (at e (cut (c ∷ bs) l))) q ∙ j n

  pub remade_at : (F : Tree) → at e (result (remade F)) ≡ at e F
  unfolding remade make result at
  remade_at F = over_at e node (node_at e) (λ f. make (leaf f)) (λ f. f) (λ f. refl) F

  -- an accepted path cut off, and all made anew
  pub pruned_at : (bs : List ℕ) (F : Tree) (ks : List ℤ) → T (proves (along bs F) ks) → at e (result (remade (cut bs F))) ≡ at e F
  pruned_at bs F ks p = remade_at (cut bs F) ∙ cut_at bs F (excluded bs F ks p)
