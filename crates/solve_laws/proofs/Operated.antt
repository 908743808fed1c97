-- An operation done on a table, whether its rule runs to its end or stops.
use Rattle.std.specs.Prelude.{◌≡◌, refl, List, ℕ, max, eqb, ℤ}
use Rattle.table.specs.Table.{Answer, stop_of, at_of, count_of}
use Rattle.std.proofs.Common.{sym, ◌∙◌, eq-eqb, eqb→eq}
use Rattle.whole.specs.Cases.{by_eq, from_true, clash}
use Rattle.theory.specs.Diagram.{Tree}
use Rattle.theory.specs.Computation.{Comp, Moment, Ops, operation, run_all}
use Rattle.rule_node.specs.Nodes.{tree_at}
use Rattle.collect.specs.Collect.{Collected}
use Rattle.solve_laws.specs.Onward.{onward, answered, onward_ok, onward_no}
use Rattle.solve_laws.specs.Operated.{RootsHeld, Came, operated, operation_refused}

module _ {cap n n₁ : ℕ} {l l₁ : List ℤ} {w w₁ : List ℕ} {ρ ρ₁ : List ℕ} {R : List Tree} (H : RootsHeld cap l w n ρ R) (C : Collected l l₁ w w₁ ρ ρ₁ n n₁) where
  module _ {c : Comp Tree} {l₂ : List ℤ} {w₂ : List ℕ} {r : Answer} (S : Came cap l₁ n₁ c l₂ w₂ r) where
    module _ {A : Type 0} (p : ℕ) (h : Moment) (f : Tree → Ops A) where
      -- both at once
      pub operation_run : run_all cap p (operation h R c f) ≡ onward (answered (stop_of r) h.stage (tree_at l₂ (count_of r) (at_of r)) (max p (count_of r))) (λ t q. run_all cap q (f t))
      operation_run = by_eq (eqb (stop_of r) 0) (λ b. run_all cap p (operation h R c f) ≡ onward (answered (stop_of r) h.stage (tree_at l₂ (count_of r) (at_of r)) (max p (count_of r))) (λ t q. run_all cap q (f t)))
          (λ e. let z = eqb→eq (stop_of r) 0 (from_true e) in operated H C S p h f z ∙ sym (onward_ok (stop_of r) h.stage (tree_at l₂ (count_of r) (at_of r)) (max p (count_of r)) refl (λ t q. run_all cap q (f t)) z))
          (λ e. let z : stop_of r ≡ 0 → ⊥ = λ q. clash (sym (eq-eqb (stop_of r) 0 q) ∙ e) in operation_refused H C S p h f z ∙ sym (onward_no (stop_of r) h.stage (tree_at l₂ (count_of r) (at_of r)) (max p (count_of r)) refl (λ t q. run_all cap q (f t)) z))
