-- Tables made anew from rows and stage words; a stage word 0 has no diagram and stays 0.
use Rattle.std.specs.Prelude.{◌≡◌, List, [], ◌∷◌, map, ℕ, ◌-◌, ◌*◌, ◌≤◌, ◌<◌, eqb, ℤ, length, get_or, take, replicate}
use Rattle.whole.specs.Cases.{if}
use Rattle.theory.specs.Widths.{steps_most, nodes_most, node_words, work_words}
use Rattle.theory.specs.Diagram.{Tree}
use Rattle.theory.specs.Computation.{result}
use Rattle.theory.specs.Solve.{number_of, table_of, solved_nodes}
use Rattle.prune_paths.specs.Prune.{diagram_at, remade, GoodRows}
use Rattle.prune_remake.specs.Remade.{forward, Gone}

-- f of each word that is not 0, in order
unfoldable pub rooted : {A : Type 0} → (ℕ → A) → List ℕ → List A
rooted f [] = []
rooted f (r ∷ rs) = if (eqb r 0) (rooted f rs) (f r ∷ rooted f rs)

-- how many of the first i words are not 0
abbrev pub before : List ℕ → ℕ → ℕ
before s i = length (rooted (λ r. r) (take i s))

-- ---- roots gathered

-- where row r has gone
abbrev pub gone_to : ℕ → List ℕ → ℕ → ℕ
gone_to cap w r = forward cap w (r - 1)

-- the words are rows that have gone somewhere
pub record StandingRows (cap : ℕ) (w s : List ℕ) : Type 0 where
  pub few : cap ≤ nodes_most
  pub works : cap * work_words ≤ length w
  pub words : (i : ℕ) → i < length s → get_or s i 0 ≤ cap
  pub gone : Gone cap w cap cap

pub record Gathered (cap : ℕ) (w s R : List ℕ) (k : ℕ) : Type 0 where
  pub roots : take k R ≡ rooted (gone_to cap w) s
  pub few : k ≤ length s

-- ---- numbers spread

-- a word 0 stays 0, the others get the numbers in turn
pub record Spread (numbers s s' : List ℕ) : Type 0 where
  pub words : (i : ℕ) → i < length s → get_or s' i 0 ≡ if (eqb (get_or s i 0) 0) 0 (get_or numbers (before s i) 0)
  pub len : length s' ≡ length s

-- ---- all of it

-- what making anew asks of rows and stage words
pub record Rowed (W : List ℤ) (s w : List ℕ) (rows : ℕ) : Type 0 where
  pub good : GoodRows W rows
  pub some : 0 < rows
  pub few : rows ≤ nodes_most
  pub nodes : rows * node_words ≤ length W
  pub works : rows * work_words ≤ length w
  pub eight : length s ≡ steps_most
  pub words : (i : ℕ) → i < length s → get_or s i 0 ≤ rows

-- row r's diagram made anew
abbrev pub anew : List ℤ → ℕ → Tree
anew W r = result (remade (diagram_at W r))

-- the stages' diagrams
abbrev pub stages_of : List ℤ → List ℕ → List Tree
stages_of W s = rooted (anew W) s

-- the number of a stage's root in a table
abbrev pub word_in : List Tree → List ℤ → ℕ → ℕ
word_in X W r = if (eqb r 0) 0 (number_of (anew W r) X)

pub record Anew (W W' : List ℤ) (s s' w w' : List ℕ) : Type 0 where
  pub nodes : W' ≡ solved_nodes (length W) (stages_of W s)
  pub stages : s' ≡ map (word_in (table_of (stages_of W s)) W) s
  pub work : w' ≡ replicate (length w) 0
