-- What the call says is what is meant: an action leads exactly where it is clear.
use Rattle.std.specs.Prelude.{◌≡◌, ◌↔◌, ◌⊎◌, Bool, true, false, ℕ, zero, suc, ◌+◌, ◌-◌, ◌≤◌, eqb, ℤ, pos, ◌+ℤ◌, length}
use Rattle.std.proofs.Common.{sym, ap, ◌∙◌, arith, eq-eqb, eqb→eq}
use Rattle.std.proofs.Math.Path.{subst}
use Rattle.std.proofs.Math.Logic.{inl, inr}
use Rattle.std.proofs.Math.Dec.{T}
use Rattle.std.specs.Int.Signed.{le_z}
use Rattle.whole.specs.Cases.{by_test}
use Rattle.theory.specs.Total.{Total, num, le_total, ◌⊑◌, Has, ◌⊕◌}
use Rattle.theory.specs.Process.{Action, total, optimum, lowest_best}
use Rattle.theory.specs.Meaning.{Model, State, process}
use Rattle.theory.specs.Valid.{valid}
use Rattle.theory.specs.Verdict.{or}
use Rattle.theory.specs.Plain.{Worth, is, nothing, over, state_worth}
use Rattle.theory.proofs.laws.Process.{lowest_best_total}
use Rattle.theory.proofs.laws.Plain.{Means, plain_exact, plain_none, plain_action}
use Rattle.theory.proofs.laws.PlainLimits.{Fine}
use Rattle.theory.proofs.laws.Rows.{all_from, from_each}
use Rattle.price_change.specs.Sure.{worth_of, exceeds, leads}
use Rattle.price_change.specs.Prices.{Clear}
use Rattle.price_change.proofs.laws.Worths.{worth_exact, each_fine, action_range, range_action}

-- a worth is exceeded exactly where its total is
exceeds_out : (d : ℕ) (v : ℤ) (o : Worth) (t : Total) → Means o t → T (exceeds d v o) → (t ⊕ num (pos (suc d))) ⊑ num v
unfolding exceeds le_total ◌⊕◌
exceeds_out d v (is u _) t m h = rw m (record { le = h })
exceeds_out d v nothing t m h = rw m (record { le = tt })
exceeds_out d v over t m h = absurd h

exceeds_in : (d : ℕ) (v : ℤ) (o : Worth) (t : Total) → Means o t → Fine o → (t ⊕ num (pos (suc d))) ⊑ num v → T (exceeds d v o)
unfolding exceeds le_total ◌⊕◌
exceeds_in d v (is u _) t m f h = (rw m at h).le
exceeds_in d v nothing t m f h = tt
exceeds_in d v over t m f h = absurd f

or_second : (a b : Bool) → T b → T (or a b)
or_second true b t = tt
or_second false b t = t

module _ (M : Model) (ok : T (valid M)) (h : ℕ) (s : State) (v : ℤ) (a : ℕ) (e : state_worth M (suc h) s ≡ is v a) where
  abbrev total_of : ℕ → Total
  total_of b = total (process M) (optimum (process M) h) h b s

  -- the worth is the total of the lowest of the best actions
  best_total : total_of a ≡ num v
  best_total = ap total_of (plain_action M ok h s v a e) ∙ sym (lowest_best_total (process M) h s) ∙ plain_exact M ok (suc h) s v a e

  abbrev test : ℕ → ℕ → Bool
  test d b = or (eqb b a) (exceeds d v (worth_of M (suc h) s b))

  pub leads_clear : (d : ℕ) → T (leads M (suc h) s d v a) → Clear (process M) d h s a
  unfolding leads
  leads_clear d t = record {
    has = subst Has (sym best_total) tt;
    apart = λ b i. let r = action_range M b i in go b (all_from (test d) 1 (suc (length M.others)) t b r.0 r.1);
  }
    where
      go : (b : ℕ) → T (test d b) → (b ≡ a) ⊎ ((total_of b ⊕ num (pos (suc d))) ⊑ total_of a)
      go b t = by_test (eqb b a) (λ z. T (or z (exceeds d v (worth_of M (suc h) s b))) → (b ≡ a) ⊎ ((total_of b ⊕ num (pos (suc d))) ⊑ total_of a))
          (λ z _. inl (eqb→eq b a z)) (λ _ u. inr (subst (λ (x : Total). (total_of b ⊕ num (pos (suc d))) ⊑ x) (sym best_total) (exceeds_out d v (worth_of M (suc h) s b) (total_of b) (worth_exact M ok h s b) u))) t

  pub clear_leads : (d : ℕ) → Clear (process M) d h s a → T (leads M (suc h) s d v a)
  unfolding leads
  clear_leads d c = from_each (test d) 1 (suc (length M.others)) (λ b l m. let i = range_action M b l m in go b i (c.apart b i))
    where
      go : (b : ℕ) → Action (process M) b → (b ≡ a) ⊎ ((total_of b ⊕ num (pos (suc d))) ⊑ total_of a) → T (test d b)
      go b i (inl q) = subst (λ (z : Bool). T (or z (exceeds d v (worth_of M (suc h) s b)))) (sym (eq-eqb b a q)) tt
      go b i (inr k) = or_second (eqb b a) _ (exceeds_in d v (worth_of M (suc h) s b) (total_of b) (worth_exact M ok h s b) (each_fine M h s (subst Fine (sym e) tt) b i)
          (subst (λ (x : Total). (total_of b ⊕ num (pos (suc d))) ⊑ x) best_total k))

-- the same, of the lowest of the best actions, whatever the steps left
module _ (M : Model) (ok : T (valid M)) (s : State) (d : ℕ) where
  abbrev Best : ℕ → Type 0
  Best steps = Clear (process M) d (steps - 1) s (lowest_best (process M) steps s)

  one_less : (h : ℕ) → suc h - 1 ≡ h
  one_less h = omega arith

  pub sure_exactly : (steps : ℕ) → 1 ≤ steps → (v : ℤ) (a : ℕ) → state_worth M steps s ≡ is v a → T (leads M steps s d v a) ↔ Best steps
  sure_exactly zero k v a e = absurd (omega arith)
  sure_exactly (suc h) k v a e = let q = plain_action M ok h s v a e in (
    λ t. subst (λ (g : ℕ). Clear (process M) d g s (lowest_best (process M) (suc h) s)) (sym (one_less h)) (subst (Clear (process M) d h s) q (leads_clear M ok h s v a e d t)),
    λ c. clear_leads M ok h s v a e d (subst (Clear (process M) d h s) (sym q) (subst (λ (g : ℕ). Clear (process M) d g s (lowest_best (process M) (suc h) s)) (one_less h) c)),
  )

  -- where there is no value nothing is sure
  pub none_unsure : (steps : ℕ) → 1 ≤ steps → state_worth M steps s ≡ nothing → Best steps → ⊥
  none_unsure zero k e c = absurd (omega arith)
  none_unsure (suc h) k e c =
      let f = subst (λ (g : ℕ). Clear (process M) d g s (lowest_best (process M) (suc h) s)) (one_less h) c in
      subst Has (sym (lowest_best_total (process M) h s) ∙ plain_none M ok (suc h) s e) f.has
