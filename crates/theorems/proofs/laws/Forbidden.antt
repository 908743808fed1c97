-- "Actions that are not permitted", proved: a term of each type of Forbidden.
use Rattle.std.specs.Prelude.{◌≡◌, refl, ◌↔◌, [], ℕ, suc, ◌*◌, ◌≤◌}
use Rattle.std.proofs.Common.{sym, ap, ◌∙◌, arith}
use Rattle.std.proofs.Math.Nat.{one-le-pow}
use Rattle.theory.specs.Diagram.{Leaf, some, forbidden}
use Rattle.theory.specs.Total.{Total, num, none, Has, weigh}
use Rattle.theory.specs.Process.{Process, optimum, lowest_best}
use Rattle.theory.specs.Meaning.{Env, action_at, env, value, at, leaf_worth, worth_at, power, process}
use Rattle.theory.specs.Load.{model}
use Rattle.theory.specs.Value.{ValueOut, answered}
use Rattle.theory.proofs.laws.Total.{by_has, has_not_none, has_above, weigh_none, weigh_is_none}
use Rattle.theory.proofs.laws.Process.{total_ext, lowest_best_action, none_where_stopped, none_exactly}
use Rattle.theory.proofs.laws.Stages.{action_numbers}
use Rattle.theory.proofs.laws.AcceptedModel.{accepted_valid, accepted_site}
use Rattle.theory.proofs.laws.Plain.{weights_positive}
use Rattle.theorems.specs.Demands.{start, site, reading}
use Rattle.theorems.specs.Forbidden.{reads_none, NoneExactly, NoTotalExactly, WeightZero, TotalBetters, ForbiddenExactly}
use Rattle.theorems.proofs.laws.Demands.{went, exact}

-- what is answered is none, or has the action
answered_none : (x : Total) (a : ℕ) → x ≡ none → answered x a ≡ reads_none
unfolding answered
answered_none x a e = rw e refl

answered_action : (x : Total) (a : ℕ) → Has x → (answered x a).action ≡ a
unfolding answered
answered_action (num z) a p = refl
answered_action none a p = absurd p

none_action : (x : Total) (a : ℕ) → 1 ≤ a → answered x a ≡ reads_none → x ≡ none
unfolding answered
none_action (num z) a p e = absurd (let q = ap (λ (o : ValueOut). o.action) e in omega arith)
none_action none a p e = refl

pub none_read : NoneExactly
none_read g h low high q t =
    let s = start g q t in
    let x = optimum (site g) h s in
    let a = lowest_best (site g) h s in
    let e = exact g h low high q t in
    let d = (action_numbers (model g.bytes) a).0 (lowest_best_action (site g) h s) in
    let k = none_exactly (site g) h s in
    let n = (accepted_site g.bytes (went g).before.own).1.same_actions in (
      k,
      (λ r. k.0 (none_action x a d.0 (sym e ∙ r)), λ all. e ∙ answered_none x a (k.1 all)),
      λ r. by_has x (λ z. absurd (r (e ∙ answered_none x a z))) (λ p.
          let i : (reading g h q).action ≡ a = ap (λ (o : ValueOut). o.action) e ∙ answered_action x a p in
          (omega (arith, d.0), omega (arith, d.1))),
    )

leaf_none : (e : Env) (f : Leaf) → (leaf_worth e f ≡ none) ↔ (f ≡ forbidden)
unfolding leaf_worth
leaf_none e (some p a) = (λ z. absurd (has_not_none (num (value e p)) tt z), λ z. ap (leaf_worth e) z)
leaf_none e forbidden = (λ _. refl, λ _. refl)

pub forbidden_exactly : ForbiddenExactly
unfolding process worth_at
forbidden_exactly B v h a s =
    let M = model B in
    let f = leaf_none (env s []) (at (env s []) (action_at M a).reward) in
    let p = one-le-pow (M.conditions * suc h) M.weights (weights_positive M (accepted_valid B v)) in
    (λ z. f.0 (weigh_is_none (power M (suc h)) _ z).1, λ z. ap (weigh (power M (suc h))) (f.1 z) ∙ weigh_none (power M (suc h)) p)

module _ {S A E : Type 0} (P : Process S A E) where
  pub no_total : NoTotalExactly P
  no_total π h s = none_where_stopped P π h s

  pub weight_zero : WeightZero P
  weight_zero = total_ext P

  pub total_betters : TotalBetters P
  total_betters h s a b p z le = rw z at (has_above _ _ le p)
