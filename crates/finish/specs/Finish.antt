-- What finishing asks of the tables, and what it leaves: the tables after solving, in the theory's words.
use Rattle.std.specs.Prelude.{◌≡◌, List, ◌++◌, map, ℕ, ◌+◌, ◌-◌, ◌*◌, ◌≤◌, ℤ, pos, length, get_or, take, replicate}
use Rattle.theory.specs.Widths.{node_words, work_words, steps_most}
use Rattle.theory.specs.Diagram.{Tree}
use Rattle.theory.specs.Solve.{table_of, solved_nodes, solved_stages}
use Rattle.finish_number.specs.Number.{TableHeld, Roots}
use Rattle.finish_arrange.specs.Arrange.{Arranged}

-- a good table of n nodes, the roots of at most eight stages in it, eight stage words; the work words may hold anything
pub record Unfinished (cap : ℕ) (l : List ℤ) (n : ℕ) (w R s : List ℕ) : Type 0 where
  pub held : TableHeld cap l n
  pub works : cap * work_words ≤ length w
  pub roots : Roots R n
  pub few : length R ≤ steps_most
  pub stages : length s ≡ steps_most

-- the tables after solving, the stages being S
pub record Finished (l l' : List ℤ) (w w' s' : List ℕ) (r : ℕ) (S : List Tree) : Type 0 where
  pub count : r ≡ length (table_of S)
  pub nodes : l' ≡ solved_nodes (length l) S
  pub stages : s' ≡ solved_stages S
  pub work : w' ≡ replicate (length w) 0

-- nothing but zeros
pub record Cleared (l l' : List ℤ) (s s' w w' : List ℕ) : Type 0 where
  pub nodes : l' ≡ replicate (length l) (pos 0)
  pub stages : s' ≡ replicate (length s) 0
  pub work : w' ≡ replicate (length w) 0

-- ---- on the way

-- the roots' numbers
unfoldable pub numbers_of : List ℕ → ℕ → List ℕ → List ℕ
numbers_of w cap R = map (λ r. get_or w (cap + r) 0) R

-- the first c places have the nodes that the order names, zeros stand behind them and in the work words
pub record LaidOut (l l' : List ℤ) (w w' : List ℕ) (c : ℕ) : Type 0 where
  pub ordered : List ℤ
  pub arranged : Arranged l ordered w c
  pub nodes : l' ≡ take (c * node_words) ordered ++ replicate (length ordered - c * node_words) (pos 0)
  pub work : w' ≡ replicate (length w) 0
