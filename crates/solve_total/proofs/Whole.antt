-- An action's total: the next levels replaced, the conditions summed out, the reward added.
use mathlib.Core.Path.{◌≡◌, sym, ap, ap₂, ◌∙◌, subst}
use mathlib.Core.List.{List, [], ◌∷◌, ◌++◌}
use Prim.Native.Nat.{ℕ, suc, ◌+◌, ◌-◌, ◌*◌, ◌^◌, ◌≤◌, ◌<◌}
use native.Mathlib.Omega.{arith}
use borrow.Author.Tests.{eq-eqb}
use lib.Dec.{eqb, eqb→eq}
use lib.IntN.{ℤ}
use lib.ListN.{length, get_or, take, drop}
use lib.Seq.{take_all}
use Rattle.whole.specs.Cases.{by_eq, from_true, clash}
use Rattle.theory.specs.Widths.{levels_most, conditions_most, actions_most, weights_most}
use Rattle.theory.specs.Diagram.{Tree}
use Rattle.theory.specs.Computation.{Comp, Moment, end, operation, solved, run_all}
use Rattle.theory.specs.Rules.{substitute, add_reward}
use Rattle.theory.specs.Meaning.{Action, power}
use Rattle.theory.specs.Verdict.{Site}
use Rattle.theory.specs.Load.{model, site_at}
use Rattle.theory.specs.Stage.{moment, sum_out}
use Rattle.rule_node.specs.Nodes.{blank}
use Rattle.model_progress.specs.declared.Site.{Site as CodeSite}
use Rattle.model_progress.specs.GivenFlags.{site_as}
use Rattle.load_model.proofs.Places.{row_few}
use Rattle.solve_laws.specs.Alike.{Alike}
use Rattle.solve_laws.specs.Onward.{Works, Stops, works_run, stops_run, run_all_end, answered, answered_ok, answered_no, onward_ok, onward_no}
use Rattle.solve_laws.specs.Steps.{after_levels, after_levels_run}
use Rattle.solve_laws.specs.Loops.{substituted, substitute_refused}
use Rattle.solve_laws.specs.Roots.{Rooted}
use Rattle.solve_operation.specs.Operation.{comp_of, FitsRule, held_trees, Operated}
use Rattle.solve_total.specs.StageTable.{Due, action_numbered, before_of, total_of, root_at, ActionRan}
use Rattle.solve_operation.specs.declared.Rule.TheVariants.{Levels, Reward}
use Rattle.solve_operation.specs.declared.Run.{Run}
use Rattle.solve_total.specs.declared.Backup.{Backup}
use Rattle.solve_total.proofs.Model.{Sited, sited, Row, row_of}
use Rattle.solve_total.proofs.Roots.{held_length, On, on_before, on_one, on_last, on_front_of, on_alike, operated_fits}

-- at the entry, the site's numbers read
pub record Totals (B : List ℕ) (cap : ℕ) (l : List ℤ) (w R : List ℕ) (r : Run) (b : Backup) (m n weights : ℕ) : Type 0 where
  pub due : Due B cap l w r.count R b.held b
  pub levels : m ≡ (site_at B).levels
  pub conditions : n ≡ (site_at B).conditions
  pub weigh : weights ≡ (site_at B).weights

pub totals_of : {B : List ℕ} {cap : ℕ} {l : List ℤ} {w R : List ℕ} (r : Run) {b : Backup} {s : CodeSite} {m n : ℕ}
    → Due B cap l w r.count R b.held b → site_as s ≡ site_at B → m ≡ s.levels → n ≡ s.conditions → Totals B cap l w R r b m n s.weights
totals_of r d es em en = record {
  due = d;
  levels = em ∙ ap (λ (S : Site). S.levels) es;
  conditions = en ∙ ap (λ (S : Site). S.conditions) es;
  weigh = ap (λ (S : Site). S.weights) es;
}

abbrev row_at : Backup → ℕ → ℕ → ℕ
row_at b n m = (b.action - 1) * (1 + n + m)

-- the places of an action's diagrams, among few
pub record Few (b : Backup) (m n weights : ℕ) : Type 0 where
  pub row : row_at b n m + (1 + n + m) ≤ b.held
  pub small : row_at b n m < 33554432
  pub some_levels : 1 ≤ m
  pub few_levels : m ≤ levels_most
  pub few_conditions : n ≤ conditions_most
  pub few_actions : b.action ≤ actions_most
  pub few_weights : weights ≤ weights_most

module _ {B : List ℕ} {cap : ℕ} {l : List ℤ} {w R : List ℕ} {r : Run} {b : Backup} {m n weights : ℕ} (t : Totals B cap l w R r b m n weights) where
  abbrev Q : List Tree
  Q = held_trees l r.count R b.held

  abbrev P : Tree
  P = before_of l r.count R b

  abbrev x : Action
  x = action_numbered B b.action

  QLength : length Q ≡ b.held
  QLength = held_length l r.count R b.held (let z = t.due.room in omega (arith, z))

  site : Sited B
  site = sited B t.due.ready.accepted

  row : Row B Q b.action
  row = row_of B t.due.ready.accepted b.action t.due.some_action t.due.an_action Q t.due.ready.models

  pub total_few : Few b m n weights
  total_few =
      let em = t.levels in
      let en = t.conditions in
      let s = site in
      let lm = s.few_levels in
      let ln = s.few_conditions in
      let la = s.few_actions in
      let ta = t.due.an_action in
      record {
        row = subst (λ (i : ℕ). i ≤ b.held) (sym (ap₂ (λ (j k : ℕ). row_at b j k + (1 + j + k)) en em)) (let a = row.within in let z = t.due.ready.first in omega (arith, a, z));
        small = row_few (b.action - 1) (1 + n + m) (omega (arith, ta, la)) (omega (arith, em, en, lm, ln));
        some_levels = let z = s.some_levels in omega (arith, em, z);
        few_levels = omega (arith, em, lm);
        few_conditions = omega (arith, en, ln);
        few_actions = omega (arith, ta, la);
        few_weights = let e = t.weigh in let z = s.few_weights in omega (arith, e, z);
      }

  -- ---- the next levels

  pub levels_fit : FitsRule b.held (Levels (row_at b n m + 1 + n) m b.before)
  unfolding FitsRule
  levels_fit = let f = total_few in let a = f.row in let z = f.some_levels in (omega (arith, a), omega (arith, z), f.few_levels, t.due.earlier)

  levels_comp : comp_of Q (Levels (row_at b n m + 1 + n) m b.before) ≡ substitute x.levels P
  unfolding comp_of
  levels_comp = ap (λ (d : List Tree). substitute d P) (ap₂ (λ (j k : ℕ). take k (drop (row_at b j k + 1 + j) Q)) t.conditions t.levels ∙ row.levels)

-- they are replaced: the roots, and what is left to run
pub record Replaced (B : List ℕ) (cap : ℕ) (l : List ℤ) (R : List ℕ) (r : Run) (b : Backup) (l₁ : List ℤ) (w₁ R₁ : List ℕ) (s : Run) : Type 0 where
  pub on : On cap l₁ w₁ s.count R₁ b.held (held_trees l r.count R b.held)
  pub fits : r.peak ≤ cap → s.peak ≤ cap
  pub left : (K : List Tree) → Alike (held_trees l r.count R b.held) K
      → run_all cap r.peak (total_of B b (before_of l r.count R b) K)
      ≡ run_all cap s.peak (after_levels (model B) b.stage K b.action (action_numbered B b.action) (root_at l₁ s.count R₁ b.held))

-- the conditions are summed out
pub record Summed (B : List ℕ) (cap : ℕ) (l : List ℤ) (R : List ℕ) (r : Run) (b : Backup) (l₂ : List ℤ) (w₂ R₂ : List ℕ) (e : Run) : Type 0 where
  pub on : On cap l₂ w₂ e.count R₂ b.held (held_trees l r.count R b.held)
  pub fits : r.peak ≤ cap → e.peak ≤ cap
  pub left : (K : List Tree) → Alike (held_trees l r.count R b.held) K
      → run_all cap r.peak (total_of B b (before_of l r.count R b) K)
      ≡ run_all cap e.peak (operation (moment b.stage b.action) (root_at l₂ e.count R₂ b.held ∷ K)
      (add_reward (power (model B) b.stage) (action_numbered B b.action).reward b.action (root_at l₂ e.count R₂ b.held)) end)

-- the total's outcome
abbrev pub Total : List ℕ → ℕ → List ℤ → List ℕ → Run → Backup → List ℤ → List ℕ → List ℕ → Run → Type 0
Total B cap l R r b l' w' R' r' = ActionRan cap r.peak l r.count R b.held b.stage (total_of B b (before_of l r.count R b)) l' w' R' r'

module _ {B : List ℕ} {cap : ℕ} {l : List ℤ} {w R : List ℕ} {r : Run} {b : Backup} {m n weights : ℕ} (t : Totals B cap l w R r b m n weights) where
  module _ {l₁ : List ℤ} {w₁ R₁ : List ℕ} {s : Run} (O : Operated cap r.peak l r.count R b.held b.held (Levels (row_at b n m + 1 + n) m b.before) l₁ w₁ R₁ s) where
    abbrev F₁ : Tree
    F₁ = root_at l₁ s.count R₁ b.held

    pub levels_replaced : s.stop ≡ 0 → length R₁ ≡ length R → Replaced B cap l R r b l₁ w₁ R₁ s
    levels_replaced ok size = record {
      on = record {
        size = QLength t;
        room = let z = t.due.room in omega (arith, z, size);
        rooted = subst (λ (X : List Tree). Rooted cap l₁ w₁ s.count (take (suc b.held) R₁) (X ++ (F₁ ∷ []))) (take_all b.held (Q t) (let z = QLength t in omega (arith, z))) (O.rooted ok);
      };
      fits = operated_fits O ok;
      left = λ K a.
          substituted (model B) cap r.peak b.stage K b.action (x t) (P t) (subst (λ (c : Comp Tree). Works cap K c F₁ s.count) (levels_comp t) (O.works ok K a))
          ∙ ap (λ (p : ℕ). run_all cap p (after_levels (model B) b.stage K b.action (x t) F₁)) (sym O.peak);
    }

    pub levels_stop : (s.stop ≡ 0 → ⊥) → Total B cap l R r b l₁ w₁ R₁ s
    levels_stop off = record {
      outcome = λ K a.
          substitute_refused (model B) cap r.peak b.stage K b.action (x t) (P t) (subst (λ (c : Comp Tree). Stops cap K c s.stop) (levels_comp t) (O.stops off K a))
          ∙ sym (answered_no s.stop b.stage F₁ s.peak off);
      rooted = λ e. absurd (off e);
      fits = λ e. absurd (off e);
    }

  -- ---- the conditions

  module _ {l₁ : List ℤ} {w₁ R₁ : List ℕ} {s : Run} (D : Replaced B cap l R r b l₁ w₁ R₁ s)
      {l₂ : List ℤ} {w₂ R₂ : List ℕ} {e : Run}
      (E : (h : Moment) → ActionRan cap s.peak l₁ s.count R₁ b.held h.stage
      (λ K. sum_out weights h K 1 (take n (drop (row_at b n m + 1) (held_trees l₁ s.count R₁ b.held))) (root_at l₁ s.count R₁ b.held)) l₂ w₂ R₂ e) where
    abbrev F : Tree
    F = root_at l₁ s.count R₁ b.held

    abbrev G : Tree
    G = root_at l₂ e.count R₂ b.held

    chances_are : take n (drop (row_at b n m + 1) (held_trees l₁ s.count R₁ b.held)) ≡ (x t).chances
    chances_are = ap (λ (X : List Tree). take n (drop (row_at b n m + 1) X)) (on_before D.on) ∙ (ap₂ (λ (j k : ℕ). take j (drop (row_at b j k + 1) (Q t))) t.conditions t.levels ∙ (row t).chances)

    weights_are : weights ≡ (model B).weights
    weights_are = t.weigh ∙ sym (site t).same.same_weights

    outcome_is : (K : List Tree) → Alike (Q t) K → run_all cap s.peak (sum_out (model B).weights (moment b.stage b.action) K 1 (x t).chances F) ≡ answered e.stop b.stage G e.peak
    outcome_is K a =
        sym (ap₂ (λ (W : ℕ) (C : List Tree). run_all cap s.peak (sum_out W (moment b.stage b.action) K 1 C F)) weights_are chances_are)
        ∙ (E (moment b.stage b.action)).outcome K (subst (λ (X : List Tree). Alike X K) (sym (on_before D.on)) a)

    pub conditions_summed : e.stop ≡ 0 → length R₂ ≡ length R₁ → Summed B cap l R r b l₂ w₂ R₂ e
    conditions_summed ok size = record {
      on = record {
        size = QLength t;
        room = let z = D.on.room in omega (arith, z, size);
        rooted = subst (λ (X : List Tree). Rooted cap l₂ w₂ e.count (take (suc b.held) R₂) (X ++ (G ∷ []))) (on_before D.on) ((E (moment b.stage b.action)).rooted ok);
      };
      fits = λ q. (E (moment b.stage b.action)).fits ok (D.fits q);
      left = λ K a. D.left K a ∙ (after_levels_run (model B) b.stage K b.action (x t) cap s.peak F ∙ onward_ok e.stop b.stage G e.peak (outcome_is K a) _ ok);
    }

    pub conditions_stop : (e.stop ≡ 0 → ⊥) → Total B cap l R r b l₂ w₂ R₂ e
    conditions_stop off = record {
      outcome = λ K a.
          D.left K a
          ∙ (after_levels_run (model B) b.stage K b.action (x t) cap s.peak F
          ∙ (onward_no e.stop b.stage G e.peak (outcome_is K a) _ off ∙ sym (answered_no e.stop b.stage G e.peak off)));
      rooted = λ q. absurd (off q);
      fits = λ q. absurd (off q);
    }

  -- ---- the reward

  pub exponent_few : n * b.stage < 33554432
  exponent_few = let f = (total_few t).few_conditions in let s = t.due.few_stages in row_few n b.stage (omega (arith, f)) (omega (arith, s))

  module _ {l₂ : List ℤ} {w₂ R₂ : List ℕ} {e : Run} (D : Summed B cap l R r b l₂ w₂ R₂ e) where
    abbrev H : Tree
    H = root_at l₂ e.count R₂ b.held

    pub reward_fits : FitsRule (b.held + 1) (Reward (row_at b n m) b.held weights (n * b.stage) b.action)
    unfolding FitsRule
    reward_fits = let f = total_few t in let a = f.row in (omega (arith, a), omega arith, f.few_actions)

    reward_comp : comp_of (held_trees l₂ e.count R₂ (b.held + 1)) (Reward (row_at b n m) b.held weights (n * b.stage) b.action) ≡ add_reward (power (model B) b.stage) (x t).reward b.action H
    unfolding comp_of
    reward_comp =
        let X = held_trees l₂ e.count R₂ (b.held + 1) in
        let f = (total_few t).row in
        let o = (site t).same in
        let d : get_or X (row_at b n m) blank ≡ (x t).reward = on_one D.on (row_at b n m) (omega (arith, f)) ∙ (ap₂ (λ (j k : ℕ). get_or (Q t) (row_at b j k) blank) t.conditions t.levels ∙ (row t).reward) in
        let p : weights ^ (n * b.stage) ≡ power (model B) b.stage = ap₂ (λ (W k : ℕ). W ^ (k * b.stage)) (t.weigh ∙ sym o.same_weights) (t.conditions ∙ sym o.same_conditions) in
        ap (λ (i : ℕ). add_reward i (get_or X (row_at b n m) blank) b.action (get_or X b.held blank)) p
        ∙ ap₂ (λ (u v : Tree). add_reward (power (model B) b.stage) u b.action v) d (on_last D.on)

    module _ {l₃ : List ℤ} {w₃ R₃ : List ℕ} {v : Run} (O : Operated cap e.peak l₂ e.count R₂ (b.held + 1) b.held (Reward (row_at b n m) b.held weights (n * b.stage) b.action) l₃ w₃ R₃ v) where
      abbrev T : Tree
      T = root_at l₃ v.count R₃ b.held

      added : v.stop ≡ 0 → (K : List Tree) → Alike (Q t) K → run_all cap r.peak (total_of B b (P t) K) ≡ answered v.stop b.stage T v.peak
      added ok K a =
          D.left K a
          ∙ (works_run e.peak (moment b.stage b.action) end (subst (λ (c : Comp Tree). Works cap (H ∷ K) c T v.count) reward_comp (O.works ok (H ∷ K) (on_alike D.on a)))
          ∙ (run_all_end cap _ T ∙ (ap (λ (p : ℕ). solved T p) (sym O.peak) ∙ sym (answered_ok v.stop b.stage T v.peak ok))))

      not_added : (v.stop ≡ 0 → ⊥) → (K : List Tree) → Alike (Q t) K → run_all cap r.peak (total_of B b (P t) K) ≡ answered v.stop b.stage T v.peak
      not_added off K a =
          D.left K a
          ∙ (stops_run e.peak (moment b.stage b.action) end (subst (λ (c : Comp Tree). Stops cap (H ∷ K) c v.stop) reward_comp (O.stops off (H ∷ K) (on_alike D.on a)))
          ∙ sym (answered_no v.stop b.stage T v.peak off))

      pub reward_added : Total B cap l R r b l₃ w₃ R₃ v
      reward_added = record {
        outcome = λ K a. by_eq (eqb v.stop 0) (λ _. run_all cap r.peak (total_of B b (P t) K) ≡ answered v.stop b.stage T v.peak)
            (λ e. added (eqb→eq v.stop 0 (from_true e)) K a) (λ e. not_added (λ q. clash (sym (eq-eqb v.stop 0 q) ∙ e)) K a);
        rooted = λ ok. subst (λ (X : List Tree). Rooted cap l₃ w₃ v.count (take (suc b.held) R₃) (X ++ (T ∷ []))) (on_front_of D.on) (O.rooted ok);
        fits = λ ok q. operated_fits O ok (D.fits q);
      }
