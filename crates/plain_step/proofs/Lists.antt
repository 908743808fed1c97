-- The numbers 1, 2, .. of a site's levels and conditions, and the site of an accepted model.
use mathlib.Core.Path.{◌≡◌, refl, sym, ap, ◌∙◌, ap₂}
use mathlib.Core.Bool.{Bool, true, false, ◌&&◌}
use mathlib.Core.List.{List, [], ◌∷◌, map}
use Prim.Native.Nat.{ℕ, zero, suc, ◌+◌, ◌*◌, ◌%◌, ◌^◌, ◌≤◌, ◌<◌}
use native.Mathlib.Omega.{arith}
use lib.Dec.{eqb, eqb→eq}
use lib.IntN.{ℤ, pos}
use lib.ListN.{get_or, length, take}
use Rattle.whole.specs.Cases.{by_test}
use Rattle.theory.specs.Widths.{levels_most, conditions_most}
use Rattle.theory.specs.Meaning.{State}
use Rattle.theory.specs.Valid.{all}
use Rattle.theory.specs.Verdict.{from_to}
use Rattle.theory.specs.Load.{site_at}
use Rattle.theory.specs.Value.{bits}
use Rattle.theory.proofs.laws.Valid.{other_above}
use Rattle.model.proofs.Accepted.{site_accepted}
use Rattle.plain_pass.specs.declared.Point.{Point}
use Rattle.plain_pass.specs.Pass.{StateStands}
use Rattle.plain_pass.proofs.Points.{stands_alone, stands_bits}
use Rattle.plain_step.specs.PointState.{ModelReady, Spells, under}

pub map_twice : {A B C : Type 0} (f : B → C) (g : A → B) (l : List A) → map f (map g l) ≡ map (λ x. f (g x)) l
map_twice f g [] = refl
map_twice f g (x ∷ l) = ap (λ m. f (g x) ∷ m) (map_twice f g l)

-- up to four of a kind
pub listed : {A : Type 0} (φ : ℕ → A) (a b c d : A) (n : ℕ) → n ≤ 4 → (1 ≤ n → a ≡ φ 1) → (2 ≤ n → b ≡ φ 2) → (3 ≤ n → c ≡ φ 3) → (4 ≤ n → d ≡ φ 4)
    → map φ (from_to 1 n) ≡ take n (a ∷ b ∷ c ∷ d ∷ [])
unfolding from_to
listed φ a b c d zero h p q r s = refl
listed φ a b c d (suc zero) h p q r s = λ i. sym (p (omega arith)) i ∷ []
listed φ a b c d (suc (suc zero)) h p q r s = λ i. sym (p (omega arith)) i ∷ sym (q (omega arith)) i ∷ []
listed φ a b c d (suc (suc (suc zero))) h p q r s = λ i. sym (p (omega arith)) i ∷ sym (q (omega arith)) i ∷ sym (r (omega arith)) i ∷ []
listed φ a b c d (suc (suc (suc (suc zero)))) h p q r s = λ i. sym (p (omega arith)) i ∷ sym (q (omega arith)) i ∷ sym (r (omega arith)) i ∷ sym (s (omega arith)) i ∷ []
listed φ a b c d (suc (suc (suc (suc (suc n))))) h p q r s = absurd (omega arith)

-- as many as there are, from a list that begins with them
pub listed_from : (φ : ℕ → ℤ) (b n : ℕ) (l : List ℤ) → n ≤ length l → ((k : ℕ) → k < n → get_or l k (pos 0) ≡ φ (b + k)) → map φ (from_to b n) ≡ take n l
unfolding from_to
listed_from φ b zero l h f = refl
listed_from φ b (suc n) [] h f = absurd (omega arith)
listed_from φ b (suc n) (x ∷ l) h f =
    let e : b + 0 ≡ b = omega arith in
    ap₂ ◌∷◌ (sym (f 0 (omega arith) ∙ ap φ e)) (listed_from φ (suc b) n l (omega arith) (λ k u. f (suc k) (omega arith) ∙ ap φ (let q : b + suc k ≡ suc b + k = omega arith in q)))

-- one that fails a test, and all that pass it
and_false : (a b : Bool) → b ≡ false → a && b ≡ false
and_false true b e = e
and_false false b e = refl

pub some_fails : {A : Type 0} (p : A → Bool) (φ : ℕ → A) (b k j : ℕ) → b ≤ j → j < b + k → p (φ j) ≡ false → all p (map φ (from_to b k)) ≡ false
unfolding from_to all
some_fails p φ b zero j u v e = absurd (omega arith)
some_fails p φ b (suc k) j u v e = by_test (eqb j b) (λ _. p (φ b) && all p (map φ (from_to (suc b) k)) ≡ false)
    (λ q. ap (λ (x : Bool). x && all p (map φ (from_to (suc b) k))) (ap (λ (i : ℕ). p (φ i)) (sym (eqb→eq j b q)) ∙ e))
    (λ n. and_false (p (φ b)) _ (some_fails p φ (suc b) k j (other_above b j u n) (omega arith) e))

pub each_passes : {A : Type 0} (p : A → Bool) (φ : ℕ → A) (b k : ℕ) → ((j : ℕ) → b ≤ j → j < b + k → p (φ j) ≡ true) → all p (map φ (from_to b k)) ≡ true
unfolding from_to all
each_passes p φ b zero h = refl
each_passes p φ b (suc k) h =
    ap (λ (x : Bool). x && all p (map φ (from_to (suc b) k))) (h b (omega arith) (omega arith)) ∙ each_passes p φ (suc b) k (λ j u v. h j (omega arith) (omega arith))

-- ---- the site

pub within_widths : (B : List ℕ) → ModelReady B → ((site_at B).conditions ≤ conditions_most) × ((site_at B).levels ≤ levels_most)
within_widths B r = let s = site_accepted B r.accepted in (s.conditions, s.levels.1)

-- a power of two, as a shift makes it
pub shifted : (n k : ℕ) → n ≡ k → k ≤ conditions_most → (1 * 2 ^ n) % 2 ^ 32 ≡ 2 ^ k
shifted zero k e h = ap (λ (j : ℕ). 2 ^ j) e
shifted (suc zero) k e h = ap (λ (j : ℕ). 2 ^ j) e
shifted (suc (suc zero)) k e h = ap (λ (j : ℕ). 2 ^ j) e
shifted (suc (suc (suc zero))) k e h = ap (λ (j : ℕ). 2 ^ j) e
shifted (suc (suc (suc (suc zero)))) k e h = ap (λ (j : ℕ). 2 ^ j) e
shifted (suc (suc (suc (suc (suc n))))) k e h = absurd (omega arith)

-- ---- points and states

module _ (B : List ℕ) (x : Point) (s : State) (ok : ModelReady B) (p : Spells (site_at B) x s) where
  pub alone : x.setting ≡ 0 → StateStands (site_at B).levels (site_at B).conditions x s []
  alone z = stands_alone (site_at B).levels (site_at B).conditions x s (within_widths B ok).0 z p.conditions_are p.nums_are p.den_is

  pub set : (r : ℕ) → StateStands (site_at B).levels (site_at B).conditions (under x r) s (bits (site_at B).conditions r)
  set r = stands_bits (site_at B).levels (site_at B).conditions (under x r) s (within_widths B ok).0 p.conditions_are p.nums_are p.den_is
