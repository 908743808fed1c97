-- Loading in a part of the room: what does not end with 12 there ends alike with more room.
use mathlib.Core.Path.{◌≡◌, refl, sym, ap, ◌∙◌}
use mathlib.Core.Logic.{⊎_elim}
use mathlib.Core.List.{List, []}
use Prim.Native.Nat.{ℕ, ◌≤◌, ◌<◌}
use native.Mathlib.Omega.{arith}
use lib.IntN.{ℤ}
use lib.ListN.{length}
use Rattle.theory.specs.Load.{load}
use Rattle.rule_node.specs.Nodes.{Good}
use Rattle.rule_node.specs.Table.{Table}
use Rattle.table_unique.specs.Unique.{Space}
use Rattle.collect_rehash.specs.Rehash.{Rehashed}
use Rattle.load_choose.specs.CommandTest.{load_rule}
use Rattle.load_model.specs.ModelRoots.{Loads}
use Rattle.load_model.specs.declared.Done.{Done}
use Rattle.solve_operation.proofs.Parts.{more_room, run_stop, rehashed_table}
use Rattle.solve_value_iteration.specs.Iteration.{Brought}

-- no nodes are good
none_good : (l : List ℤ) → Good l 0
none_good l = record { valid = λ i h. absurd (omega arith); distinct = λ i j h. absurd (omega arith) }

pub emptied : (B : List ℕ) {part : ℕ} {l : List ℤ} {w w' : List ℕ} → Space part l w 0 → Rehashed part l w w' 0 → Table (load_rule B) part l w' 0
emptied B {l = l} S H = rehashed_table S (none_good l) H

pub brought : {B : List ℕ} {part : ℕ} {l : List ℤ} {w R : List ℕ} {r : Done} → Loads B part l w R r → Brought B part l w R r
brought L =
    record {
      good = L.table.bare.good;
      space = L.table.bare.chained.space;
      ran = L.ran;
      below = L.below;
      roots = L.roots;
      end_below = L.end_below;
      end_root = L.end_root;
      stops = L.stops;
    }

-- the next try has room for a part
pub record Filling (cap : ℕ) (l₀ : List ℤ) (w₀ R₀ : List ℕ) (l : List ℤ) (w R : List ℕ) (part : ℕ) : Type 0 where
  pub space : Space cap l w 0
  pub some : 0 < part
  pub within : part ≤ cap
  pub nodes_length : length l ≡ length l₀
  pub work_length : length w ≡ length w₀
  pub roots_length : length R ≡ length R₀

pub filling_starts : {cap part : ℕ} {l : List ℤ} {w R : List ℕ} → Space cap l w 0 → (0 < part) × (part ≤ cap) → Filling cap l w R l w R part
filling_starts S p = record { space = S; some = p.0; within = p.1; nodes_length = refl; work_length = refl; roots_length = refl }

-- room for n nodes in words as many
roomy : {cap n : ℕ} {l l' : List ℤ} {w w' : List ℕ} → Space cap l w 0 → length l' ≡ length l → length w' ≡ length w → n ≤ cap → Space cap l' w' n
roomy S a b h = record { some = S.some; few = S.few; room = h; words = omega (arith, a, S.words); works = omega (arith, b, S.works) }

module _ {cap part : ℕ} {l₀ l : List ℤ} {w₀ w R₀ R : List ℕ} (Y : Filling cap l₀ w₀ R₀ l w R part) where
  pub part_space : Space part l w 0
  part_space = let S = Y.space in record { some = Y.some; few = omega (arith, Y.within, S.few); room = omega arith; words = omega (arith, Y.within, S.words); works = omega (arith, Y.within, S.works) }

  module _ {l' : List ℤ} {w' R' : List ℕ} (a : length l' ≡ length l) (b : length w' ≡ length w) where
    -- not 12: so with all the room
    pub part_loads : {B : List ℕ} {r : Done} → Brought B part l' w' R' r → (r.stop ≡ 12 → ⊥) → Brought B cap l' w' R' r
    unfolding run_stop
    part_loads {B} Q off = record {
      good = Q.good;
      space = roomy Y.space a b (omega (arith, Q.space.room, Y.within));
      ran = λ z. ⊎_elim (λ e. absurd (let q : 0 ≡ 12 = ap run_stop (sym (Q.ran z) ∙ e) in omega arith)) (λ e. e ∙ Q.ran z) (more_room part cap Y.within (load B) []);
      below = Q.below;
      roots = Q.roots;
      end_below = Q.end_below;
      end_root = Q.end_root;
      stops = λ z. ⊎_elim (λ e. absurd (off (ap run_stop (sym (Q.stops z) ∙ e)))) (λ e. e ∙ Q.stops z) (more_room part cap Y.within (load B) []);
    }

    -- 12: a wider part next
    pub filling_again : length R' ≡ length R → {next : ℕ} → (part < next) × (next ≤ cap) → Filling cap l₀ w₀ R₀ l' w' R' next
    filling_again d p = record {
      space = roomy Y.space a b (omega arith);
      some = omega (arith, p.0);
      within = p.1;
      nodes_length = a ∙ Y.nodes_length;
      work_length = b ∙ Y.work_length;
      roots_length = d ∙ Y.roots_length;
    }
