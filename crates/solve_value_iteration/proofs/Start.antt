-- The table that a run starts with, and the roots of a loaded model.
use mathlib.Core.Path.{◌≡◌, refl, sym, ap, ◌∙◌, subst}
use mathlib.Core.List.{List, [], ◌∷◌, ◌++◌, map}
use Prim.Native.Nat.{ℕ, zero, suc, ◌+◌, ◌-◌, ◌≤◌, ◌<◌}
use native.Mathlib.Nat.{mul-le-mul}
use native.Mathlib.Omega.{arith}
use lib.Dec.{leb→le}
use lib.IntN.{ℤ}
use lib.ListN.{length, get_or, take, drop, replicate, get_or-replicate}
use lib.Seq.{drop-cons}
use Rattle.theory.specs.Widths.{levels_most, conditions_most, actions_most, model_roots_most}
use Rattle.theory.specs.Diagram.{Tree}
use Rattle.theory.specs.Verdict.{verdict, from_to}
use Rattle.theory.specs.Load.{site_at, model}
use Rattle.theory.specs.Stage.{model_diagrams}
use Rattle.theory.proofs.laws.Valid.{among_out}
use Rattle.theory.proofs.laws.AcceptedModel.{accepted_site}
use Rattle.table_unique.specs.Unique.{last_of, Space}
use Rattle.rule_node.specs.Nodes.{trees, tree_at}
use Rattle.rule_node.specs.Table.{EntryRule, Table}
use Rattle.rule_node.proofs.Outcomes.{fresh}
use Rattle.collect_mark.specs.Mark.{roots_of}
use Rattle.collect_mark.specs.Mark.{Below as Lower}
use Rattle.finish.proofs.Fill.{all_wiped}
use Rattle.load_command.specs.CommandStep.{NumbersBelow}
use Rattle.load_model.specs.declared.Done.{Done}
use Rattle.solve_laws.specs.Operated.{below_cons}
use Rattle.solve_operation.specs.Operation.{held_trees, Standing}
use Rattle.solve_total.specs.StageTable.{model_size}
use Rattle.solve_value_iteration.specs.Iteration.{Brought}

-- ---- no node yet

-- zeros are the chains of no node and an empty cache
zeros_table : (R : EntryRule) {cap : ℕ} {l : List ℤ} {w : List ℕ} → Space cap l w 0 → {w' : List ℕ} → w' ≡ replicate (length w) 0 → length w' ≡ length w → Table R cap l w' 0
unfolding last_of
zeros_table R {cap} {l} {w} S {w'} e n =
    let a = S.works in
    let zero_at : (j : ℕ) → j < length w → get_or w' j 0 ≡ 0 = λ j h. ap (λ (t : List ℕ). get_or t j 0) e ∙ get_or-replicate (length w) j 0 0 h in
    fresh (record {
      good = record { valid = λ i h. absurd (omega arith); distinct = λ i j h. absurd (omega arith) };
      chained = record {
        space = record {
          some = S.some;
          few = S.few;
          room = omega arith;
          words = S.words;
          works = omega arith;
        };
        hashed = record { heads = λ b h. zero_at b (omega arith); links = λ i h. absurd (omega arith) };
        apart = λ i j h. absurd (omega arith);
      };
    }) (λ j h k. zero_at j (omega arith))

-- the work words filled with zeros
pub wiped_table : (R : EntryRule) {cap : ℕ} {l : List ℤ} {w w' : List ℕ} → Space cap l w 0 → w' ≡ take 0 w ++ replicate (length w - 0) 0 → length w' ≡ length w → Table R cap l w' 0
wiped_table R {w = w} S e n = zeros_table R S (all_wiped 0 w e) n

-- ---- how many roots a model has

pub size_few : (B : List ℕ) → (verdict B).number ≡ 0 → model_size B ≤ model_roots_most
size_few B v =
    let r = (accepted_site B v).0 in
    let a = (among_out actions_most (site_at B).actions r.actions_in).1 in
    let m = (among_out levels_most (site_at B).levels r.levels_in).1 in
    let n = leb→le (site_at B).conditions conditions_most r.conditions_in in
    let q = mul-le-mul {n₁ = (site_at B).actions} {m₁ = 1 + (site_at B).conditions + (site_at B).levels} {n₂ = actions_most} {m₂ = 1 + conditions_most + levels_most} a (omega arith) in
    omega arith

-- ---- the roots of a loaded model

part_of : (R : List ℕ) (a k : ℕ) → a + k ≤ length R → map (λ i. get_or R i 0) (from_to a k) ≡ take k (drop a R)
unfolding from_to
part_of R a zero h = refl
part_of R a (suc k) h = ap (λ (t : List ℕ). get_or R a 0 ∷ t) (part_of R (suc a) k (omega arith)) ∙ ap (take (suc k)) (sym (drop-cons R a 0 (omega arith)))

pub standing_roots : (l : List ℤ) (n : ℕ) (K : List ℕ) → map (λ i. tree_at l n i) K ≡ roots_of (trees l n) K
unfolding roots_of
standing_roots l n [] = refl
standing_roots l n (i ∷ K) = ap (λ (X : List Tree). tree_at l n i ∷ X) (standing_roots l n K)

none_lower : (n : ℕ) → Lower [] n
none_lower n = record { at = λ j h. absurd (omega arith) }

below_lower : (n : ℕ) (K : List ℕ) → NumbersBelow n K → Lower K n
unfolding NumbersBelow
below_lower n [] b = none_lower n
below_lower n (i ∷ K) b = below_cons b.0 (below_lower n K b.1)

module _ {B : List ℕ} {cap : ℕ} {l : List ℤ} {w R : List ℕ} {r : Done} (L : Brought B cap l w R r) (go : r.stop ≡ 0) (few : model_size B ≤ length R) where
  numbers : map (λ i. get_or R i 0) (from_to 0 (model_size B)) ≡ take (model_size B) R
  numbers = part_of R 0 (model_size B) (omega arith)

  -- the model's diagrams
  pub loaded_models : held_trees l r.count R (model_size B) ≡ model_diagrams (model B)
  loaded_models = ap (roots_of (trees l r.count)) (sym numbers) ∙ (sym (standing_roots l r.count (map (λ i. get_or R i 0) (from_to 0 (model_size B)))) ∙ L.roots go)

  pub loaded_standing : Standing cap l w r.count R (model_size B)
  loaded_standing = record {
    good = L.good;
    space = L.space;
    below = subst (λ (K : List ℕ). Lower K r.count) numbers (below_lower r.count (map (λ i. get_or R i 0) (from_to 0 (model_size B))) (L.below go));
    few = few;
  }
