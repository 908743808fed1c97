-- "Tables after solving" and solve's refusals: solve as one function of its inputs.
use Rattle.std.specs.Prelude.{not, List, [], ◌∷◌, ◌++◌, map, ℕ, zero, suc, ◌+◌, ◌-◌, ◌/◌, min, eqb, ltb, ℤ, pos, length, replicate}
use Rattle.whole.specs.Cases.{if}
use Rattle.theory.specs.Widths.{bytes_most, steps_most, nodes_most, node_words, work_words, peak_words, conditions_most, levels_most}
use Rattle.theory.specs.Diagram.{Linear, Test, now, later, linear, Leaf, some, forbidden, lin_of, act_of, Tree, leaf, branch, same, padded}
use Rattle.theory.specs.Computation.{done, stopped, run, enter_all, Solved, solved, refused, run_all}
use Rattle.theory.specs.Stage.{all_stages}
use Rattle.theory.specs.Valid.{among}
use Rattle.theory.specs.Verdict.{Verdict, refusal, verdict, or}
use Rattle.theory.specs.Load.{load}
use Rattle.theory.specs.Peaks.{solved_peaks}

-- "What the tables hold, N, is the least of node words ÷ 12, work words ÷ 8 and 65,535, rounded down."
unfoldable pub room : ℕ → ℕ → ℕ
room nodes work = min (nodes / node_words) (min (work / work_words) nodes_most)

-- loading is one operation, its place 0; then the stages
unfoldable pub solve_in : ℕ → List ℕ → ℕ → Solved (List Tree)
solve_in N B H = elim (run N (load B) []) [
  | done M X ↦ run_all N (length X) (all_stages M H)
  | stopped r ↦ refused r 0
]

-- ---- nodes as words

-- "numbered from 1": the number of a node among those of a table
unfoldable pub number_of : Tree → List Tree → ℕ
number_of t [] = 0
number_of t (x ∷ X) = if (same x t) 1 (elim (number_of t X) [ zero ↦ 0 | suc k ↦ suc (suc k) ])

-- "eight coefficients, constant"
abbrev pub linear_words : Linear → List ℤ
linear_words p = padded levels_most p.coeffs ++ (p.const ∷ [])

-- "A condition has its number as first coefficient and zeros after."
unfoldable pub test_words : Test → List ℤ
test_words (now k) = pos 1 ∷ (padded levels_most (pos k ∷ []) ++ (pos 0 ∷ []))
test_words (later k) = pos 1 ∷ (padded levels_most (pos (conditions_most + k) ∷ []) ++ (pos 0 ∷ []))
test_words (linear p) = pos 2 ∷ linear_words p

-- "kind (0 leaf ..)"; "A leaf "none" has kind 3"
unfoldable pub leaf_kind : Leaf → ℤ
leaf_kind (some p a) = pos 0
leaf_kind forbidden = pos 3

-- "kind (0 leaf, 1 condition, 2 test), eight coefficients, constant, high, low .. A leaf has its action in place of high, and zero for low."; of a leaf "none" "all other words zero"
unfoldable pub row : List Tree → Tree → List ℤ
row X (leaf f) = leaf_kind f ∷ (linear_words (lin_of f) ++ (pos (act_of f) ∷ pos 0 ∷ []))
row X (branch t h l) = test_words t ++ (pos (number_of h X) ∷ pos (number_of l X) ∷ [])

-- the rows of some nodes, numbered as in X
unfoldable pub rows : List Tree → List Tree → List ℤ
rows X [] = []
rows X (t ∷ l) = row X t ++ rows X l

-- ---- the outcome

-- number and place, the peak, and the words that were lent, as they are left
pub record SolveOut : Type 0 where
  pub number : ℕ
  pub place : ℕ
  pub peak : ℕ
  pub nodes : List ℤ
  pub stages : List ℕ
  pub work : List ℕ
  pub peaks : List ℕ

-- "The table holds the nodes of stages 1 to H and no others, numbered from 1: stage by stage, high before low, a node after its branches."
unfoldable pub table_of : List Tree → List Tree
table_of S = enter_all S []

-- "All other words .. are zero."
unfoldable pub solved_nodes : ℕ → List Tree → List ℤ
solved_nodes size S = rows (table_of S) (table_of S) ++ replicate (size - length (rows (table_of S) (table_of S))) (pos 0)

-- "Eight 32-bit words hold the stage roots, zero beyond H."
unfoldable pub solved_stages : List Tree → List ℕ
solved_stages S = map (λ t. number_of t (table_of S)) S ++ replicate (steps_most - length S) 0

-- what a solve leaves: the tables, or "tables, stages, work all zero"; peaks "are zero after 11 or 12"
unfoldable pub solve_left : List ℕ → ℕ → List ℤ → List ℕ → List ℕ → List ℕ → Solved (List Tree) → SolveOut
solve_left B H nodes stages work peaks (solved S peak) = record {
  number = 0;
  place = 0;
  peak = peak;
  nodes = solved_nodes (length nodes) S;
  stages = solved_stages S;
  work = replicate (length work) 0;
  peaks = solved_peaks B H;
}
solve_left B H nodes stages work peaks (refused r h) = record {
  number = r;
  place = h;
  peak = 0;
  nodes = replicate (length nodes) (pos 0);
  stages = replicate (length stages) 0;
  work = replicate (length work) 0;
  peaks = replicate (length peaks) 0;
}

-- "10: stage words not eight, or model above 262,144 bytes", "9: horizon or steps not 1 to 8", then the model's own: "Order: 10, 9, the model by offset"
unfoldable pub early : List ℕ → ℕ → ℕ → Verdict
early B steps words =
    if (or (not (eqb words steps_most)) (ltb bytes_most (length B))) (refusal 10 0)
    (if (not (among steps_most steps)) (refusal 9 0)
    (verdict B))

-- the same with the peaks' words: "It refuses another length with 10."
unfoldable pub early_with_peaks : List ℕ → ℕ → ℕ → ℕ → Verdict
early_with_peaks B H words peaks = if (eqb peaks peak_words) (early B H words) (refusal 10 0)

-- solve: refused early with "all untouched", or run
unfoldable pub solve : List ℕ → ℕ → List ℤ → List ℕ → List ℕ → List ℕ → SolveOut
solve B H nodes stages work peaks =
    let v = early_with_peaks B H (length stages) (length peaks) in
    if (eqb v.number 0)
    (solve_left B H nodes stages work peaks (solve_in (room (length nodes) (length work)) B H))
    (record { number = v.number; place = v.place; peak = 0; nodes = nodes; stages = stages; work = work; peaks = peaks })
