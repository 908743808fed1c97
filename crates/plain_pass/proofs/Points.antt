-- What a point tells of a state: its conditions, its numerators, and which side a choice takes.
use mathlib.Core.Path.{◌≡◌, refl, sym, ap, ap₂, ◌∙◌}
use mathlib.Core.Bool.{Bool, true, false, not}
use mathlib.Core.List.{List, [], ◌∷◌}
use Prim.Native.Nat.{ℕ, zero, suc, ◌-◌, ◌/◌, ◌≤◌}
use native.Mathlib.Omega.{arith}
use lib.Dec.{T, compare_is_eq, leb, ltb, leb→le, nleb→lt, ltb→lt}
use lib.IntN.{ℤ, pos, ◌+ℤ◌, ◌*ℤ◌}
use lib.ListN.{take, drop}
use lib.Signed.{le_z}
use Rattle.whole.specs.Cases.{if, by_test, both, not_not, clash}
use Rattle.whole.specs.Int.{ring}
use Rattle.theory.specs.Widths.{conditions_most}
use Rattle.theory.specs.Diagram.{Linear, Test, now, later, Tree, Leaf, cmp_ℤ, zeros, test_of}
use Rattle.theory.specs.Computation.{Comp, result}
use Rattle.theory.specs.Rules.{choose, decide}
use Rattle.theory.specs.Meaning.{State, Env, env, nth, dot, value, holds, at}
use Rattle.theory.specs.Valid.{among}
use Rattle.theory.specs.Verdict.{or, next_condition, beyond}
use Rattle.theory.specs.Load.{condition_test}
use Rattle.theory.specs.Value.{bits}
use Rattle.theory.proofs.laws.Comps.{cmp_ℤ_eq}
use Rattle.theory.proofs.laws.Valid.{among_out}
use Rattle.theory.proofs.laws.Values.{choose_at, decide_at}
use Rattle.plain_pass.specs.declared.Point.{Point}
use Rattle.plain_pass.specs.Pass.{nums_of, den_of, numerator, condition_holds, StateStands}

-- ---- bits

pub nth_more : (n N m k : ℕ) → 1 ≤ k → k ≤ n → n ≤ N → nth (bits n m) k ≡ nth (bits N m) k
unfolding nth bits
nth_more zero N m k a b c = absurd (omega arith)
nth_more (suc n) zero m k a b c = absurd (omega arith)
nth_more (suc n) (suc N) m zero a b c = absurd (omega arith)
nth_more (suc n) (suc N) m (suc zero) a b c = refl
nth_more (suc n) (suc N) m (suc (suc k)) a b c = nth_more n N (m / 2) (suc k) (omega arith) (omega arith) (omega arith)

-- with no setting none is yes, as in the setting 0
pub nth_none : (k : ℕ) → nth [] k ≡ nth (bits 4 0) k
unfolding nth bits
nth_none zero = refl
nth_none (suc zero) = refl
nth_none (suc (suc zero)) = refl
nth_none (suc (suc (suc zero))) = refl
nth_none (suc (suc (suc (suc zero)))) = refl
nth_none (suc (suc (suc (suc (suc k))))) = refl

-- a point as the asked state and the masks spell it
pub stands_bits : (m n : ℕ) (x : Point) (s : State) → n ≤ 4 → s.conditions ≡ bits n x.mask → s.nums ≡ take m (nums_of x) → pos s.den ≡ den_of x → StateStands m n x s (bits n x.setting)
stands_bits m n x s h c u d = record {
  now_is = λ k a b. ap (λ l. nth l k) c ∙ nth_more n 4 x.mask k a b h;
  later_is = λ k a b. nth_more n 4 x.setting k a b h;
  nums_are = u;
  den_is = d;
}

pub stands_alone : (m n : ℕ) (x : Point) (s : State) → n ≤ 4 → x.setting ≡ 0 → s.conditions ≡ bits n x.mask → s.nums ≡ take m (nums_of x) → pos s.den ≡ den_of x → StateStands m n x s []
stands_alone m n x s h z c u d = record {
  now_is = λ k a b. ap (λ l. nth l k) c ∙ nth_more n 4 x.mask k a b h;
  later_is = λ k a b. nth_none k ∙ ap (λ (i : ℕ). nth (bits 4 i) k) (sym z);
  nums_are = u;
  den_is = d;
}

-- ---- numerators

zero_step : (c y d : ℤ) → c ≡ pos 0 → d ≡ pos 0 → c *ℤ y +ℤ d ≡ pos 0
zero_step c y d h k = rw (h, k) (simp ring)

pub dot_zeros : (c x : List ℤ) → T (zeros c) → dot c x ≡ pos 0
unfolding dot zeros
dot_zeros [] x t = refl
dot_zeros (c ∷ cs) [] t = refl
dot_zeros (c ∷ cs) (y ∷ x) t =
    let d = both (compare_is_eq (cmp_ℤ c (pos 0))) (zeros cs) t in
    zero_step c y (dot cs x) (cmp_ℤ_eq c (pos 0) d.0) (dot_zeros cs x d.1)

-- coefficients that are zero beyond level m ask for no more numerators
dot_within : (m : ℕ) (c x : List ℤ) → T (zeros (drop m c)) → dot c (take m x) ≡ dot c x
unfolding dot
dot_within m [] x t = refl
dot_within zero (c ∷ cs) x t = sym (dot_zeros (c ∷ cs) x t)
dot_within (suc m) (c ∷ cs) [] t = refl
dot_within (suc m) (c ∷ cs) (y ∷ x) t = ap (λ (z : ℤ). c *ℤ y +ℤ z) (dot_within m cs x t)

pub or_out : {C : Type 0} (a b : Bool) → T (or a b) → (T a → C) → (T b → C) → C
or_out true b t f g = f tt
or_out false b t f g = g t

module _ {m n : ℕ} {x : Point} {s : State} {r : List Bool} (st : StateStands m n x s r) where
  abbrev e : Env
  e = env s r

  pub value_is : (p : Linear) → T (not (beyond m p)) → value e p ≡ numerator x p
  unfolding value env numerator beyond
  value_is p w = ap₂ (λ (a b : ℤ). a +ℤ p.const *ℤ b)
      (ap (dot p.coeffs) st.nums_are ∙ dot_within m p.coeffs (nums_of x) (not_not (zeros (drop m p.coeffs)) w)) st.den_is

  -- ---- choices

  condition_is : (k : ℕ) → n ≤ 4 → T (or (among n k) (next_condition n k)) → holds e (condition_test k) ≡ condition_holds x k
  unfolding holds condition_test condition_holds env next_condition
  condition_is k h o = by_test (leb k conditions_most)
      (λ b. holds e (if b (now k) (later (k - conditions_most))) ≡ if b (nth (bits 4 x.mask) k) (nth (bits 4 x.setting) (k - conditions_most)))
      (λ t. let l = leb→le k conditions_most t in
      or_out (among n k) _ o (λ a. let d = among_out n k a in st.now_is k d.0 d.1)
      (λ y. absurd (omega (arith, ltb→lt conditions_most k (both (ltb conditions_most k) _ y).0))))
      (λ t. let l = nleb→lt k conditions_most t in
      or_out (among n k) _ o (λ a. let d = among_out n k a in absurd (omega (arith, d.1)))
      (λ y. let d = among_out n (k - conditions_most) (both (ltb conditions_most k) _ y).1 in st.later_is (k - conditions_most) d.0 d.1))

  -- the side that a choice takes
  abbrev pub Sides : Test → Bool → Type 0
  Sides t b = (H L : Tree) → at e (result (choose t H L)) ≡ if b (at e H) (at e L)

  pub condition_sides : (k : ℕ) → n ≤ 4 → T (or (among n k) (next_condition n k)) → Sides (condition_test k) (condition_holds x k)
  condition_sides k h o H L = choose_at e (condition_test k) H L ∙ ap (λ (b : Bool). if b (at e H) (at e L)) (condition_is k h o)

  pub test_sides : (p : Linear) → zeros p.coeffs ≡ false → T (not (beyond m p)) → Sides (test_of p) (le_z (numerator x p) (pos 0))
  unfolding decide
  test_sides p z w H L = go _ _ (zeros p.coeffs) z (decide_at e p H L) ∙ ap (λ (v : ℤ). if (le_z v (pos 0)) (at e H) (at e L)) (value_is p w)
    where
      go : (D : Comp Tree) (f : Leaf) (b : Bool) → b ≡ false → at e (result (if b D (choose (test_of p) H L))) ≡ f → at e (result (choose (test_of p) H L)) ≡ f
      go D f true q u = clash q
      go D f false q u = u
