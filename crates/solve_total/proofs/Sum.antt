-- The conditions summed out one by one: what is left to run after each.
use mathlib.Core.Path.{◌≡◌, refl, sym, ap, ◌∙◌, subst}
use mathlib.Core.List.{List, [], ◌∷◌, ◌++◌}
use Prim.Native.Nat.{ℕ, suc, ◌+◌, ◌≤◌, ◌<◌}
use native.Mathlib.Omega.{arith}
use lib.IntN.{ℤ}
use lib.ListN.{length, get_or, take, drop, length-drop}
use lib.Seq.{length-take-le, get_or-take, get_or-drop}
use Rattle.theory.specs.Diagram.{Tree}
use Rattle.theory.specs.Computation.{Comp, Moment, run_all}
use Rattle.theory.specs.Rules.{expectation}
use Rattle.theory.specs.Stage.{sum_out}
use Rattle.rule_node.specs.Nodes.{blank}
use Rattle.solve_laws.specs.Alike.{Alike}
use Rattle.solve_laws.specs.Onward.{Works, Stops, answered_ok, answered_no}
use Rattle.solve_laws.specs.Steps.{sum_out_done}
use Rattle.solve_laws.specs.Loops.{condition_done, condition_refused}
use Rattle.solve_laws.specs.Roots.{Rooted}
use Rattle.solve_operation.specs.Operation.{comp_of, FitsRule, held_trees, Operated}
use Rattle.solve_total.specs.StageTable.{root_at, Sums, chances_of, ActionRan}
use Rattle.solve_operation.specs.declared.Rule.TheVariants.{Expect}
use Rattle.solve_operation.specs.declared.Run.{Run}
use Rattle.solve_total.specs.declared.Chances.{Chances}
use Rattle.solve_total.proofs.Roots.{On, standing_on, on_one, on_last, on_front_of, on_alike, operated_fits}

-- k conditions are summed out
pub record Summing (cap : ℕ) (l₀ : List ℤ) (w₀ R₀ : List ℕ) (held : ℕ) (c : Chances) (r₀ : Run) (l : List ℤ) (w R : List ℕ) (r : Run) (k : ℕ) : Type 0 where
  pub from : Sums cap l₀ w₀ r₀ R₀ held c
  pub none_yet : r.stop ≡ 0
  pub few : k ≤ c.count
  pub on : On cap l w r.count R held (held_trees l₀ r₀.count R₀ held)
  pub fits : r₀.peak ≤ cap → r.peak ≤ cap
  pub left : (h : Moment) (K : List Tree) → Alike (held_trees l₀ r₀.count R₀ held) K
      → run_all cap r₀.peak (sum_out c.weights h K 1 (chances_of l₀ r₀.count R₀ held c) (root_at l₀ r₀.count R₀ held))
      ≡ run_all cap r.peak (sum_out c.weights h K (suc k) (drop k (chances_of l₀ r₀.count R₀ held c)) (root_at l r.count R held))

pub summing_starts : {cap : ℕ} {l₀ : List ℤ} {w₀ R₀ : List ℕ} {held : ℕ} {c : Chances} {r₀ : Run} → Sums cap l₀ w₀ r₀ R₀ held c
    → Summing cap l₀ w₀ R₀ held c r₀ l₀ w₀ R₀ r₀ 0
summing_starts {cap} {l₀} {w₀} {R₀} {held} {r₀ = r₀} s = record { from = s; none_yet = s.none_yet; few = omega arith; on = standing_on cap l₀ w₀ r₀.count R₀ held s.standing; fits = λ q. q; left = λ h K a. refl }

module _ {cap : ℕ} {l₀ : List ℤ} {w₀ R₀ : List ℕ} {held : ℕ} {c : Chances} {r₀ : Run} {l : List ℤ} {w R : List ℕ} {r : Run} {k : ℕ}
    (I : Summing cap l₀ w₀ R₀ held c r₀ l w R r k) where
  abbrev Q : List Tree
  Q = held_trees l₀ r₀.count R₀ held

  abbrev ws : List Tree
  ws = chances_of l₀ r₀.count R₀ held c

  abbrev F : Tree
  F = root_at l r.count R held

  ws_length : length ws ≡ c.count
  ws_length = length-take-le c.count (drop c.first Q) (let z = length-drop c.first Q in let y = I.on.size in let x = I.from.ends in omega (arith, x, y, z))

  pub summing_fits : k < c.count → FitsRule (held + 1) (Expect (c.first + k) (k + 1) held c.weights)
  unfolding FitsRule
  summing_fits h = let x = I.from.ends in let y = I.from.few_conditions in (omega (arith, x, h), omega arith, omega (arith, h, y), omega arith, I.from.few_weights)

  -- none is left
  pub summing_done : c.count ≤ k → (h : Moment) → ActionRan cap r₀.peak l₀ r₀.count R₀ held h.stage (λ K. sum_out c.weights h K 1 ws (root_at l₀ r₀.count R₀ held)) l w R r
  summing_done q h = record {
    outcome = λ K a. I.left h K a ∙ (sum_out_done c.weights h K ws cap r.peak (suc k) k F (let z = ws_length in omega (arith, z, q)) ∙ sym (answered_ok r.stop h.stage F r.peak I.none_yet));
    rooted = λ _. I.on.rooted;
    fits = λ _. I.fits;
  }

  -- the next operation
  module _ (h : k < c.count) where
    k_in : k < length ws
    k_in = let z = ws_length in omega (arith, z, h)

    comp_is : comp_of (held_trees l r.count R (held + 1)) (Expect (c.first + k) (k + 1) held c.weights) ≡ expectation c.weights (get_or ws k blank) (suc k) F
    unfolding comp_of
    comp_is =
        let X = held_trees l r.count R (held + 1) in
        let z = I.from.ends in
        let a : get_or X (c.first + k) blank ≡ get_or ws k blank = on_one I.on (c.first + k) (omega (arith, z, h)) ∙ (sym (get_or-drop c.first Q k blank) ∙ sym (get_or-take c.count (drop c.first Q) k blank h)) in
        ap (λ (t : Tree). expectation c.weights t (k + 1) (get_or X held blank)) a
        ∙ (ap (λ (j : ℕ). expectation c.weights (get_or ws k blank) j (get_or X held blank)) (let y : k + 1 ≡ suc k = omega arith in y)
        ∙ ap (λ (t : Tree). expectation c.weights (get_or ws k blank) (suc k) t) (on_last I.on))

    module _ {l' : List ℤ} {w' R' : List ℕ} {r' : Run} (O : Operated cap r.peak l r.count R (held + 1) held (Expect (c.first + k) (k + 1) held c.weights) l' w' R' r') where
      abbrev G : Tree
      G = root_at l' r'.count R' held

      pub summing_again : r'.stop ≡ 0 → length R' ≡ length R → Summing cap l₀ w₀ R₀ held c r₀ l' w' R' r' (k + 1)
      summing_again ok size = record {
        from = I.from;
        none_yet = ok;
        few = omega (arith, h);
        on = record {
          size = I.on.size;
          room = let z = I.on.room in omega (arith, z, size);
          rooted = subst (λ (X : List Tree). Rooted cap l' w' r'.count (take (suc held) R') (X ++ (G ∷ []))) (on_front_of I.on) (O.rooted ok);
        };
        fits = λ q. operated_fits O ok (I.fits q);
        left = λ s K a.
            I.left s K a
            ∙ (condition_done cap r.peak c.weights s K ws blank (suc k) k F k_in (subst (λ (m : Comp Tree). Works cap (F ∷ K) m G r'.count) comp_is (O.works ok (F ∷ K) (on_alike I.on a)))
            ∙ (ap (λ (p : ℕ). run_all cap p (sum_out c.weights s K (suc (suc k)) (drop (suc k) ws) G)) (sym O.peak)
            ∙ ap (λ (j : ℕ). run_all cap r'.peak (sum_out c.weights s K (suc j) (drop j ws) G)) (let z : suc k ≡ k + 1 = omega arith in z)));
      }

      pub summing_stops : (r'.stop ≡ 0 → ⊥) → (s : Moment) → ActionRan cap r₀.peak l₀ r₀.count R₀ held s.stage (λ K. sum_out c.weights s K 1 ws (root_at l₀ r₀.count R₀ held)) l' w' R' r'
      summing_stops off s = record {
        outcome = λ K a.
            I.left s K a
            ∙ (condition_refused cap r.peak c.weights s K ws blank (suc k) k F k_in (subst (λ (m : Comp Tree). Stops cap (F ∷ K) m r'.stop) comp_is (O.stops off (F ∷ K) (on_alike I.on a)))
            ∙ sym (answered_no r'.stop s.stage G r'.peak off));
        rooted = λ e. absurd (off e);
        fits = λ e. absurd (off e);
      }
