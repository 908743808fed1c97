-- The statements, proved.
use Rattle.std.specs.Prelude.{◌≡◌, true, ℕ, ◌+◌, ◌*◌, ◌^◌, ◌≤◌, ◌<◌, T, leb, ℤ, pos, ◌*ℤ◌}
use Rattle.std.proofs.Math.Path.{refl, ap, ap₂}
use Rattle.std.proofs.Common.{sym, ◌∙◌, arith, eq-eqb, leb→le}
use Rattle.std.proofs.Math.Bool.{◌&&◌}
use Rattle.std.proofs.Math.Nat.{one-le-pow}
use Rattle.std.proofs.Math.IntN.{◌+ℤ◌, *ℤ_comm}
use Rattle.whole.specs.Cases.{both}
use Rattle.whole.specs.Linears.{eq_ℤ}
use Rattle.whole.specs.LinearsLaws.{eq_ℤ_refl}
use Rattle.whole.specs.Numerator.{number, words}
use Rattle.whole.specs.NumeratorLaws.{number_words}
use Rattle.theory.specs.Total.{Total, num, none, ◌⊕◌, weigh}
use Rattle.theory.specs.Process.{optimum}
use Rattle.theory.specs.Meaning.{Model, power, process}
use Rattle.theory.specs.Valid.{among}
use Rattle.theory.specs.Verdict.{Site, verdict}
use Rattle.theory.specs.Load.{model, site_at}
use Rattle.theory.specs.Value.{Asked, answered}
use Rattle.theory.proofs.laws.AcceptedModel.{accepted_site}
use Rattle.theory.proofs.laws.Total.{weigh_num, weigh_none, none-⊕, ⊕_comm, num-⊕}
use Rattle.theory.proofs.laws.Process.{policy_equal, policy_lower, expected_below}
use Rattle.theorems.specs.Demands.{site}
use Rattle.theorems.proofs.laws.Demands.{went, exact}
use Rattle.value_joined.specs.Total.{answered_number, answered_total, crosswise, both_read, same_scale, total_after, total_of}
use Rattle.value_joined.specs.Statements.{Asking, both as both-sites, begins, best_pair, BestTotal, BestPair, NoneOfEither, OfAllPolicies, PairsSum}
use Rattle.value_joined.proofs.laws.Cases.{past_scale, first_none, second_none, both_some}
use Rattle.value_joined.proofs.laws.Sites.{site_optimum, site_best, site_none, site_weights, lowest_some}

-- ---- two answers, by what each side has

module _ (S R : Site) (h : ℕ) (q r : Asked) (w : S.weights ≡ R.weights) (d : q.den ≡ r.den) (p : ℕ) (k : ℕ)
    (cross-one : S.weights ^ (R.conditions * h) ≡ p) (cross-two : S.weights ^ (S.conditions * h) ≡ k) (p>0 : 0 < p) (k>0 : 0 < k) where
  scale_is : same_scale S R q r ≡ true
  unfolding same_scale
  scale_is = ap₂ ◌&&◌ (eq-eqb S.weights R.weights w) (ap (eq_ℤ q.den) (sym d) ∙ eq_ℤ_refl q.den)

  each : (n : ℕ) (z : ℤ) (p : ℕ) → n ≡ p → number (words z) *ℤ pos n ≡ pos p *ℤ z
  each n z p e = ap₂ (λ (u : ℤ) (m : ℕ). u *ℤ pos m) (number_words z) e ∙ *ℤ_comm z (pos p)

  -- of two values that are read
  read_both : (x y : Total) (a b : ℕ) → 1 ≤ a → 1 ≤ b → both_read S R h (answered x a) (answered y b) ≡ answered_total (weigh p x ⊕ weigh k y) a b
  unfolding answered answered_total crosswise
  read_both (num z) (num v) a b i j =
      both_some S R h (answered (num z) a) (answered (num v) b) (λ n. omega arith) (λ n. omega arith)
      ∙ ap (λ (n : ℤ). answered_number n a b) (ap₂ ◌+ℤ◌ (each _ z p cross-one) (each _ v k cross-two))
      ∙ ap (λ (t : Total). answered_total t a b) (sym (ap₂ ◌⊕◌ (weigh_num p z) (weigh_num k v) ∙ num-⊕ (pos p *ℤ z) (pos k *ℤ v)))
  read_both (num z) none a b i j =
      second_none S R h (answered (num z) a) (answered none b) refl
      ∙ ap (λ (t : Total). answered_total t a b) (sym (ap (λ (t : Total). weigh p (num z) ⊕ t) (weigh_none k k>0) ∙ ⊕_comm (weigh p (num z)) none ∙ none-⊕ (weigh p (num z))))
  read_both none y a b i j =
      first_none S R h (answered none a) (answered y b) refl
      ∙ ap (λ (t : Total). answered_total t a b) (sym (ap (λ (t : Total). t ⊕ weigh k y) (weigh_none p p>0) ∙ none-⊕ (weigh k y)))

  reads : (x : Total) (a : ℕ) → (answered x a).number ≡ 0
  unfolding answered
  reads (num z) a = refl
  reads none a = refl

  both_answered : (x y : Total) (a b : ℕ) → 1 ≤ a → 1 ≤ b → total_after S R h q r (answered x a) (answered y b) ≡ answered_total (weigh p x ⊕ weigh k y) a b
  both_answered x y a b i j = past_scale S R h q r (answered x a) (answered y b) (reads x a) (reads y b) scale_is ∙ read_both x y a b i j

-- ---- solved models

some_among : (n w : ℕ) → T (among n w) → 1 ≤ w
unfolding among
some_among n w t = leb→le 1 w (both (leb 1 w) (leb w n) t).0

module _ (g : Asking) where
  own_one : (verdict g.one.bytes).number ≡ 0
  own_one = (went g.one).before.own

  own_two : (verdict g.two.bytes).number ≡ 0
  own_two = (went g.two).before.own

  abbrev M : Model
  M = model g.one.bytes

  abbrev N : Model
  N = model g.two.bytes

  weights_one : 1 ≤ M.weights
  weights_one = let (r, s) = accepted_site g.one.bytes own_one in rw s.same_weights (some_among 100 _ r.weights_in)

  weights_two : 1 ≤ N.weights
  weights_two = let (r, s) = accepted_site g.two.bytes own_two in rw s.same_weights (some_among 100 _ r.weights_in)

  power_one : (site_at g.one.bytes).weights ^ ((site_at g.one.bytes).conditions * g.steps) ≡ power M g.steps
  power_one = let s = (accepted_site g.one.bytes own_one).1 in λ i. (sym s.same_weights i) ^ ((sym s.same_conditions i) * g.steps)

  power_two : (site_at g.one.bytes).weights ^ ((site_at g.two.bytes).conditions * g.steps) ≡ power N g.steps
  power_two = let s = (accepted_site g.two.bytes own_two).1 in λ i. ((g.weights ∙ sym s.same_weights) i) ^ ((sym s.same_conditions i) * g.steps)

pub best_total : BestTotal
unfolding total_of
best_total g =
    let h = g.steps in
    let s = begins g in
    let x = optimum (site g.one) h s.0 in
    let y = optimum (site g.two) h s.1 in
    ap₂ (total_after (site_at g.one.bytes) (site_at g.two.bytes) h g.at_one g.at_two)
    (exact g.one h g.some g.in_one g.at_one g.accepts_one) (exact g.two h g.some g.in_two g.at_two g.accepts_two)
    ∙ both_answered (site_at g.one.bytes) (site_at g.two.bytes) h g.at_one g.at_two g.weights g.den (power (N g) h) (power (M g) h) (power_two g) (power_one g)
    (one-le-pow ((N g).conditions * h) (N g).weights (weights_two g)) (one-le-pow ((M g).conditions * h) (M g).weights (weights_one g))
    x y (best_pair g).0 (best_pair g).1 (lowest_some (M g) h s.0) (lowest_some (N g) h s.1)
    ∙ ap (λ (t : Total). answered_total t (best_pair g).0 (best_pair g).1) (sym (site_optimum g.one.bytes g.two.bytes (own_one g) (own_two g) h s.0 s.1))

pub best_pairs : BestPair
best_pairs g h e = rw e (site_best g.one.bytes g.two.bytes (own_one g) (own_two g) h (begins g).0 (begins g).1)

pub none_of_either : NoneOfEither
none_of_either g = site_none g.one.bytes g.two.bytes (own_one g) (own_two g) (weights_one g) (weights_two g) g.steps (begins g).0 (begins g).1

pub of_all_policies : OfAllPolicies
of_all_policies g π = (
  expected_below (both-sites g) π g.steps (begins g),
  λ has. (policy_equal (both-sites g) π g.steps (begins g) has, policy_lower (both-sites g) π g.steps (begins g) has),
)

pub pairs_sum : PairsSum
pairs_sum = site_weights
