-- A path refused, or accepted and cut off: the outcome.
use mathlib.Core.Path.{◌≡◌, sym, ap, ◌∙◌}
use mathlib.Core.Bool.{Bool, true, false, not, ◌&&◌}
use mathlib.Core.List.{List}
use Prim.Native.Nat.{ℕ, ◌-◌, ◌≤◌}
use native.Mathlib.Omega.{arith}
use borrow.Author.Tests.{eqb-false, not-true, eq-eqb, ne_eqb}
use lib.Dec.{T, eqb, leb→le}
use lib.IntN.{ℤ}
use lib.ListN.{length, get_or}
use Rattle.whole.specs.Cases.{if, both, is_true}
use Rattle.theory.specs.Widths.{conditions_most}
use Rattle.theory.specs.Verdict.{Verdict}
use Rattle.theory.specs.Load.{site_at}
use Rattle.theory.specs.Solve.{room}
use Rattle.theory.proofs.laws.AcceptedModel.{accepted}
use Rattle.model.specs.Answers.{shown}
use Rattle.model.specs.declared.Verdict.{Verdict as CodeVerdict}
use Rattle.prune_paths.specs.Prune.{diagram_at, along, fits, shaped, prune_refusal, pruned, PruneOut, prune}
use Rattle.prune_paths.proofs.laws.Reads.{cleared}
use Rattle.prune.specs.CutOutcome.{CutAccepted, outcome, left}

-- a path that is shaped is there, and fits
shape_parts : (turns : List ℕ) (nodes : List ℤ) (root : ℕ) (ks : List ℤ) → T (shaped turns (diagram_at nodes root) ks) → (1 ≤ length turns) × T (fits turns (diagram_at nodes root))
unfolding shaped
shape_parts turns nodes root ks t =
    let F = diagram_at nodes root in
    let p = both (not (eqb (length turns) 0)) (fits turns F && eqb (length ks) (length (along turns F))) t in
    let q = both (fits turns F) (eqb (length ks) (length (along turns F))) p.1 in
    let z = eqb-false (length turns) 0 (not-true (eqb (length turns) 0) (is_true (not (eqb (length turns) 0)) p.0)) in
    (omega arith, q.0)

module _ (B : List ℕ) (nodes : List ℤ) (stages work : List ℕ) (s : ℕ) (turns : List ℕ) (ks : List ℤ) where
  abbrev of_refusal : Verdict → Bool → PruneOut
  of_refusal v b = if b (pruned nodes stages work s turns) (record { number = v.number; place = v.place; nodes = nodes; stages = stages; work = work })

  module _ {most : ℕ} (m : most ≡ room (length nodes) (length work)) (v : CodeVerdict) (e : shown v ≡ prune_refusal B nodes stages most s turns ks) where
    judged : shown v ≡ prune_refusal B nodes stages (room (length nodes) (length work)) s turns ks
    judged = e ∙ ap (λ (N : ℕ). prune_refusal B nodes stages N s turns ks) m

    by_verdict : (b : Bool) → eqb v.number 0 ≡ b → prune B nodes stages work s turns ks ≡ of_refusal (shown v) b
    unfolding prune
    by_verdict b p = ap (λ (u : Verdict). of_refusal u (eqb u.number 0)) (sym judged) ∙ ap (of_refusal (shown v)) p

    pub refused : (v.number ≡ 0 → ⊥) → outcome v nodes stages work ≡ prune B nodes stages work s turns ks
    refused z = sym (by_verdict false (ne_eqb v.number 0 z))

    pub cut : v.number ≡ 0 → {l : List ℤ} {s' w' : List ℕ} → left l s' w' ≡ pruned nodes stages work s turns → outcome (record { number = 0; place = 0 }) l s' w' ≡ prune B nodes stages work s turns ks
    cut z p = p ∙ sym (by_verdict true (eq-eqb v.number 0 z))

    pub taken : v.number ≡ 0 → CutAccepted nodes stages work s turns
    taken z =
        let c = cleared B nodes stages (room (length nodes) (length work)) s turns ks (ap (λ (u : Verdict). eqb u.number 0) (sym judged) ∙ eq-eqb v.number 0 z) in
        let p = shape_parts turns nodes (get_or stages (s - 1) 0) ks c.shape in
        let r = eqb-false (get_or stages (s - 1) 0) 0 c.rooted in
        record {
          least = c.before.least;
          most = c.before.most;
          eight = c.before.eight;
          rows = record {
            conditions = (site_at B).conditions;
            actions = (site_at B).actions;
            few = leb→le (site_at B).conditions conditions_most (accepted B c.before.own).0.conditions_in;
            rows = c.rows;
          };
          rooted = omega arith;
          some = p.0;
          shape = p.1;
          within = c.within;
        }
