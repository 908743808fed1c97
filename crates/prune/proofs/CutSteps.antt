-- An accepted path cut off: what each step asks, and what is left.
use mathlib.Core.Path.{◌≡◌, ap, ap₂, ◌∙◌}
use mathlib.Core.List.{List, map}
use Prim.Native.Nat.{ℕ, ◌-◌, ◌*◌, ◌≤◌, ◌<◌}
use native.Mathlib.Omega.{arith}
use lib.Dec.{T}
use lib.IntN.{ℤ}
use lib.ListN.{length, get_or, set, length-set}
use Rattle.theory.specs.Widths.{steps_most, nodes_most, node_words, work_words}
use Rattle.theory.specs.Diagram.{Tree}
use Rattle.theory.specs.Solve.{room, table_of, solved_nodes}
use Rattle.theory.specs.Listing.{greatest_root}
use Rattle.theory.proofs.laws.ValueWalk.{greatest_least}
use Rattle.prune_paths.specs.Prune.{diagram_at, fits, GoodRows, path_needs, stages_anew, pruned}
use Rattle.prune_copy.specs.Copy.{rows_after, Copied}
use Rattle.prune_tables.specs.Tables.{Rowed, Anew, word_in}
use Rattle.prune.specs.CutOutcome.{CutAccepted, left}
use Rattle.prune.proofs.Stages.{stand, words_within, same_stages, same_words}

module _ {W : List ℤ} {stages work : List ℕ} {s : ℕ} {turns : List ℕ} (A : CutAccepted W stages work s turns) {last : ℕ} (g : last ≡ greatest_root steps_most stages) where
  -- the rows and the copy have room
  pub record Holds : Type 0 where
    pub few : rows_after last turns ≤ nodes_most
    pub nodes : rows_after last turns * node_words ≤ length W
    pub works : rows_after last turns * work_words ≤ length work

  pub holds : Holds
  unfolding room path_needs
  holds = record { few = omega (arith, A.within); nodes = omega (arith, A.within); works = omega (arith, A.within) }

  upto : (i : ℕ) → i < length stages → get_or stages i 0 ≤ last
  upto i h = omega (arith, greatest_least steps_most stages i (omega (arith, A.eight)))

  good_rows : GoodRows W last
  good_rows = record { conditions = A.rows.conditions; actions = A.rows.actions; few = A.rows.few; rows = λ i a b. A.rows.rows i a (omega arith) }

  pub to_copy : GoodRows W last × (1 ≤ get_or stages (s - 1) 0) × (get_or stages (s - 1) 0 ≤ last) × (1 ≤ length turns) × T (fits turns (diagram_at W (get_or stages (s - 1) 0))) × (rows_after last turns * node_words ≤ length W)
  to_copy = (good_rows, A.rooted, upto (s - 1) (omega (arith, A.least, A.most, A.eight)), A.some, A.shape, holds.nodes)

  module _ {W' : List ℤ} {q : ℕ} (C : Copied W W' (get_or stages (s - 1) 0) turns last q) (n : length W' ≡ length W) where
    pub to_make : Rowed W' (set stages (s - 1) q) work (rows_after last turns)
    to_make = record {
      good = C.rows;
      some = omega (arith, C.above, C.within);
      few = holds.few;
      nodes = omega (arith, holds.nodes);
      works = holds.works;
      eight = length-set stages (s - 1) q ∙ A.eight;
      words = words_within stages s C A.least (omega (arith, A.most, A.eight)) A.rooted upto (rows_after last turns) (omega arith) C.within;
    }

    pub cut_left : {l : List ℤ} {s' w' : List ℕ} → Anew W' l (set stages (s - 1) q) s' work w' → left l s' w' ≡ pruned W stages work s turns
    unfolding pruned
    cut_left N =
        let D = stand stages s C A.least (omega (arith, A.most, A.eight)) A.rooted upto in
        let z = length-set stages (s - 1) q in
        let e = same_stages W W' s turns 1 stages (set stages (s - 1) q) z D in
        λ i. record {
          number = 0;
          place = 0;
          nodes = (N.nodes ∙ ap₂ solved_nodes n e) i;
          stages = (N.stages ∙ (ap (λ (S : List Tree). map (word_in (table_of S) W') (set stages (s - 1) q)) e ∙ same_words W W' s turns (table_of (stages_anew W s turns 1 stages)) 1 stages (set stages (s - 1) q) z D)) i;
          work = N.work i;
        }
