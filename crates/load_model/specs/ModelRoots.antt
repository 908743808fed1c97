-- The roots of a model's diagrams: those of action a from (a − 1)(1 + n + m) on, its reward, its n chances and its m next levels; then the end worth's. What a load leaves.
use Rattle.std.specs.Prelude.{◌≡◌, Bool, List, [], ◌∷◌, map, ℕ, ◌+◌, ◌-◌, ◌*◌, ltb, eqb, ℤ, get_or, set}
use Rattle.whole.specs.Cases.{if}
use Rattle.theory.specs.Widths.{loaded_roots_most}
use Rattle.theory.specs.Computation.{done, stopped, run}
use Rattle.theory.specs.Command.{Command, site, push_leaf, push_condition, push_test, push_forbidden, give, name_action, end_model, Slot}
use Rattle.theory.specs.Verdict.{Site, or, from_to}
use Rattle.theory.specs.Load.{site_at, load, model}
use Rattle.theory.specs.Stage.{model_diagrams}
use Rattle.model_stack.specs.Held.{held}
use Rattle.rule_node.specs.Nodes.{trees}
use Rattle.rule_node.specs.Table.{Table}
use Rattle.load_choose.specs.CommandTest.{load_rule}
use Rattle.load_command.specs.CommandStep.{standing, NumbersBelow}
use Rattle.load_command.specs.declared.Loaded.{Loaded}
use Rattle.load_model.specs.declared.Done.{Done}

-- the actions whose roots stand before: those with lower numbers, or all before the end worth's
unfoldable pub rows_above : ℕ → Slot → ℕ
rows_above A g = if (eqb g.command 0x23) A (g.action - 1)

-- within an action's roots: its reward, its n chances, its next levels
unfoldable pub offset_of : ℕ → Slot → ℕ
offset_of n g = if (eqb g.command 0x22) (n + g.index) g.index

-- the place of what a command gives, with m levels, n conditions and A actions; past all roots where it gives nothing
unfoldable pub place_of : ℕ → ℕ → ℕ → Command → ℕ
place_of m n A (site b c a w) = loaded_roots_most
place_of m n A (push_leaf p) = loaded_roots_most
place_of m n A (push_condition k) = loaded_roots_most
place_of m n A (push_test p) = loaded_roots_most
place_of m n A push_forbidden = loaded_roots_most
place_of m n A (give g) = rows_above A g * (1 + n + m) + offset_of n g
place_of m n A (name_action a b) = loaded_roots_most
place_of m n A end_model = loaded_roots_most

-- whether an end worth has been given, with one command more
unfoldable pub ended_by : Bool → Command → Bool
ended_by b (site m n a w) = b
ended_by b (push_leaf p) = b
ended_by b (push_condition k) = b
ended_by b (push_test p) = b
ended_by b push_forbidden = b
ended_by b (give g) = or (eqb g.command 0x23) b
ended_by b (name_action a t) = b
ended_by b end_model = b

unfoldable pub stored_in : List ℕ → ℕ → ℕ → List ℕ
stored_in R at x = if (ltb at loaded_roots_most) (set R at x) R

pub record Starts (s : Loaded) : Type 0 where
  pub stop : s.stop ≡ 0
  pub count : s.count ≡ 0
  pub stack : held s.stack ≡ []

-- the numbers of all roots, in their order
abbrev pub model_roots : Site → List ℕ → List ℕ
model_roots S R = map (λ i. get_or R i 0) (from_to 0 (S.actions * (1 + S.conditions + S.levels)))

-- the number of the end worth's, behind them, where one is given
abbrev pub end_of : Site → List ℕ → Bool → List ℕ
end_of S R ended = if ended (get_or R (S.actions * (1 + S.conditions + S.levels)) 0 ∷ []) []

-- the table holds what the load of the model made, and the roots are the model's diagrams and its end worth; or it stopped
pub record Loads (B : List ℕ) (cap : ℕ) (l : List ℤ) (w : List ℕ) (R : List ℕ) (r : Done) : Type 0 where
  pub table : Table (load_rule B) cap l w r.count
  pub ran : r.stop ≡ 0 → run cap (load B) [] ≡ done (model B) (trees l r.count)
  pub below : r.stop ≡ 0 → NumbersBelow r.count (model_roots (site_at B) R)
  pub roots : r.stop ≡ 0 → standing l r.count (model_roots (site_at B) R) ≡ model_diagrams (model B)
  pub end_below : r.stop ≡ 0 → NumbersBelow r.count (end_of (site_at B) R r.ended)
  pub end_root : r.stop ≡ 0 → standing l r.count (end_of (site_at B) R r.ended) ≡ (model B).end
  pub stops : (r.stop ≡ 0 → ⊥) → run cap (load B) [] ≡ stopped r.stop
