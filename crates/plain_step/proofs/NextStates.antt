-- Next levels and next states.
use mathlib.Core.Path.{◌≡◌, refl, sym, ap, ◌∙◌, subst}
use Rattle.std.specs.Prelude.{Option, Some, None}
use mathlib.Core.Bool.{Bool, true, false}
use mathlib.Core.List.{List, map}
use Prim.Native.Nat.{ℕ, zero, suc, ◌+◌, ◌≤◌, ◌<◌}
use native.Mathlib.Omega.{arith}
use borrow.Author.Tests.{eqb-true, eqb-false}
use lib.Dec.{eqb}
use lib.IntN.{ℤ, pos}
use lib.ListN.{length, get_or, take, length-set}
use lib.ListN.{set as store}
use lib.Seq.{get_or-set_same, get_or-set_other, get_or-take, length-take-le}
use mir.Syntax.{w32}
use mir.Val.{SFits}
use Rattle.whole.specs.Cases.{if}
use Rattle.whole.specs.Linears.{numbers}
use Rattle.whole.specs.Numerator.{number, words}
use Rattle.whole.specs.NumeratorLaws.{number_words}
use Rattle.whole.specs.declared.Numerator.{Numerator}
use Rattle.theory.specs.Widths.{levels_most}
use Rattle.theory.specs.Meaning.{State, env, level_at, moved}
use Rattle.theory.specs.Valid.{all}
use Rattle.theory.specs.Verdict.{Site, level_slot, from_to}
use Rattle.theory.specs.Load.{find_slot, action_of, site_at}
use Rattle.theory.specs.Value.{bits}
use Rattle.theory.specs.Plain.{in_32_bits}
use Rattle.theory.specs.Load.{loaded_entries}
use Rattle.plain_pass.specs.declared.Point.{Point}
use Rattle.plain_pass.specs.Pass.{den_of, FlatPoint, StateStands}
use Rattle.plain_limits.specs.Totals.{judged_32}
use Rattle.plain_step.specs.PointState.{ModelReady, Spells, FitsSite, under, after, LevelIs, Reaches, LeadsTo}
use Rattle.plain_step.proofs.Lists.{map_twice, listed_from, some_fails, each_passes, within_widths, set}

-- ---- a level

pub level_found : (B : List ℕ) (a i : ℕ) (x : Point) (v : Numerator)
    → ((s : State) (r : List Bool) → StateStands (site_at B).levels (site_at B).conditions x s r → v ≡ words (level_at (env s r) (find_slot (level_slot a i) (loaded_entries B))))
    → {z : Option ℤ} → z ≡ judged_32 (number v) → LevelIs B a i x z
level_found B a i x v f q = record {
  is = λ s r st.
      let l : ℤ = level_at (env s r) (find_slot (level_slot a i) (loaded_entries B)) in
      q ∙ ap (λ (u : Numerator). judged_32 (number u)) (f s r st) ∙ ap judged_32 (number_words l);
}

-- what a level says of its numerator
level_gives : (z n : ℤ) → Some n ≡ judged_32 z → (n ≡ z) × (in_32_bits z ≡ true)
unfolding judged_32
level_gives z n e = go (in_32_bits z) refl e
  where
    go : (c : Bool) → in_32_bits z ≡ c → Some n ≡ if c (Some z) None → (n ≡ z) × (in_32_bits z ≡ true)
    go true q u = (cc, q)
    go false q u = absurd (let y : ◌≡◌ {A = ℕ} 0 1 = cc in omega arith)

level_lacks : (z : ℤ) → None ≡ judged_32 z → in_32_bits z ≡ false
unfolding judged_32
level_lacks z e = go (in_32_bits z) refl e
  where
    go : (c : Bool) → in_32_bits z ≡ c → None ≡ if c (Some z) None → in_32_bits z ≡ false
    go true q u = absurd (let y : ◌≡◌ {A = ℕ} 0 1 = cc in omega arith)
    go false q u = q

-- ---- a state

-- a setting changes no numerator
pub flat_under : {x : Point} {r : ℕ} → FlatPoint x → {y : Point} → y ≡ under x r → FlatPoint y
flat_under f e = rw e (record { few = f.few; rest = f.rest })

-- next level i under a setting
abbrev level_on : List ℕ → ℕ → ℕ → State → ℕ → ℤ
level_on B a r s i = level_at (env s (bits (site_at B).conditions r)) (find_slot (level_slot a i) (loaded_entries B))

-- the first i levels are there, and the denominator
pub record Moved (B : List ℕ) (a : ℕ) (x : Point) (r i : ℕ) (n : List ℤ) : Type 0 where
  pub upto : i ≤ levels_most
  pub long : length n ≡ numbers
  pub last : get_or n levels_most (pos 0) ≡ den_of x
  pub rest : (k : ℕ) → (site_at B).levels ≤ k → get_or n k (pos 0) ≡ get_or x.n k (pos 0)
  pub each : (s : State) → Spells (site_at B) x s → (k : ℕ) → k < i → 1 + k ≤ (site_at B).levels → (get_or n k (pos 0) ≡ level_on B a r s (1 + k)) × (in_32_bits (level_on B a r s (1 + k)) ≡ true)

module _ (B : List ℕ) (a : ℕ) (x : Point) (r : ℕ) (ok : ModelReady B) {y : Point} (under-is : y ≡ under x r) where
  abbrev S : Site
  S = site_at B

  abbrev level_of : State → ℕ → ℤ
  level_of s i = level_on B a r s i

  nums_after : (s : State) → (after B a s r).nums ≡ map (level_of s) (from_to 1 S.levels)
  unfolding moved action_of
  nums_after s = map_twice (level_at (env s (bits S.conditions r))) (λ i. find_slot (level_slot a i) (loaded_entries B)) (from_to 1 S.levels)

  level_says : (s : State) → Spells S x s → (i : ℕ) {z : Option ℤ} → LevelIs B a i y z → z ≡ judged_32 (level_of s i)
  level_says s p i h = h.is s (bits S.conditions r) (rw under-is (set B x s ok p r))

  -- some level leaves 32 bits
  pub leads_over : (i : ℕ) → 1 ≤ i → i ≤ S.levels → {z : Option ℤ} → LevelIs B a i y z → z ≡ None → {v : Option Point} → v ≡ None → LeadsTo B a x r v
  leads_over i low high h e {v} o = record {
    leads = λ s p. record {
      at = λ y q. absurd (let n : ◌≡◌ {A = ℕ} 0 1 = cc in omega arith);
      over = λ _. ap (all in_32_bits) (nums_after s) ∙ some_fails in_32_bits (level_of s) 1 S.levels i low (omega arith) (level_lacks (level_of s i) (sym e ∙ level_says s p i h));
    };
  }

  pub none_moved : length x.n ≡ numbers → Moved B a x r 0 x.n
  none_moved e = record { upto = omega arith; long = e; last = refl; rest = λ k h. refl; each = λ s p k h. absurd (omega arith) }

  pub one_moved : {i : ℕ} {n : List ℤ} → Moved B a x r i n → i < S.levels → {j : ℕ} → j ≡ 1 + i → {l : Option ℤ} → LevelIs B a j y l → {z : ℤ} → l ≡ Some z → SFits w32 z → {v : ℤ} → v ≡ z → Moved B a x r (i + 1) (store n i v)
  one_moved {i} {n} M h {j} ej {l} L {z} e f {v} ev = record {
    upto = omega (arith, (within_widths B ok).1);
    long = length-set n i v ∙ M.long;
    last = get_or-set_other n i levels_most v (pos 0) (λ q. omega (arith, (within_widths B ok).1)) ∙ M.last;
    rest = λ k u. get_or-set_other n i k v (pos 0) (λ q. omega (arith, q)) ∙ M.rest k u;
    each = λ s p k u w. go s p k u w (eqb k i) (λ t. eqb-true k i t) (λ t. eqb-false k i t);
  }
    where
      go : (s : State) → Spells S x s → (k : ℕ) → k < i + 1 → 1 + k ≤ S.levels → (b : Bool) → (b ≡ true → k ≡ i) → (b ≡ false → k ≡ i → ⊥)
          → (get_or (store n i v) k (pos 0) ≡ level_of s (1 + k)) × (in_32_bits (level_of s (1 + k)) ≡ true)
      go s p k u w true q d =
          let t : k ≡ i = q refl in
          let c : j ≡ 1 + k = omega arith in
          let g = level_gives (level_of s j) z (sym e ∙ level_says s p j L) in (
            ap (λ (m : ℕ). get_or (store n i v) m (pos 0)) t ∙ (get_or-set_same n i v (pos 0) (let b = M.long in omega (arith, (within_widths B ok).1)) ∙
                (ev ∙ (g.0 ∙ ap (level_of s) c))),
            ap (λ (m : ℕ). in_32_bits (level_of s m)) (sym c) ∙ g.1,
          )
      go s p k u w false q d =
          let t = d refl in
          let m = M.each s p k (omega arith) w in
          (get_or-set_other n i k v (pos 0) t ∙ m.0, m.1)

  pub all_moved : {i : ℕ} {n : List ℤ} → Moved B a x r i n → S.levels ≤ i → FitsSite S x → {m : ℕ} → m ≡ S.levels → {v : Option Point} → v ≡ Some (record { mask = r; setting = 0; n = n; levels = m }) → LeadsTo B a x r v
  unfolding moved
  all_moved {i} {n} M h ft {m} em ev = rw ev (record {
    leads = λ s p. record {
      over = λ q. absurd (let n : ◌≡◌ {A = ℕ} 0 1 = cc in omega arith);
      at = λ y q. subst (Reaches S (after B a s r)) (let e : record { mask = r; setting = 0; n = n; levels = m } ≡ y = cc in e) (record {
        fits = ap (all in_32_bits) (nums_after s) ∙ each_passes in_32_bits (level_of s) 1 S.levels (passes s p);
        alone = refl;
        point_fits = record {
          flat = record { few = omega (arith, em, (within_widths B ok).1); rest = λ k u w. M.rest k (omega (arith, em)) ∙ ft.flat.rest k (omega (arith, em, ft.few)) w };
          few = omega (arith, em);
        };
        spells = record {
          conditions_are = refl;
          nums_are = nums_after s ∙ listed_from (level_of s) 1 S.levels (take levels_most n) (rw firsts (within_widths B ok).1)
              (λ k u. get_or-take levels_most n k (pos 0) (omega (arith, (within_widths B ok).1)) ∙ (M.each s p k (omega (arith, (within_widths B ok).1, h))
              (omega arith)).0);
          den_is = p.den_is ∙ sym M.last;
        };
      });
    };
  })
    where
      firsts : length (take levels_most n) ≡ levels_most
      firsts = length-take-le levels_most n (let b = M.long in omega arith)

      passes : (s : State) → Spells S x s → (j : ℕ) → 1 ≤ j → j < 1 + S.levels → in_32_bits (level_of s j) ≡ true
      passes s p zero u v = absurd (omega arith)
      passes s p (suc j) u v = let c : 1 + j ≡ suc j = omega arith in ap (λ (m : ℕ). in_32_bits (level_of s m)) (sym c) ∙ (M.each s p j (omega (arith, (within_widths B ok).1, h)) (omega arith)).1
