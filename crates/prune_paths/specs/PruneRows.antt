-- "What a refusal gives", of a path: each number with when it is given, and what it leaves.
use Rattle.std.specs.Prelude.{◌≡◌, ◌↔◌, List, ℕ, ◌-◌, ◌≤◌, ◌<◌, T, ℤ, length, get_or}
use Rattle.theory.specs.Diagram.{Tree}
use Rattle.theory.specs.Load.{site_at}
use Rattle.theory.specs.Listing.{greatest_root}
use Rattle.theory.specs.Rows.{Range, Admitted, EarlyRow, Room, NodeFits}
use Rattle.prune_paths.specs.Prune.{diagram_at, along, shaped, proves, path_needs, PruneOut, pruned, prune}

module _ (B : List ℕ) (nodes : List ℤ) (stages work : List ℕ) (s : ℕ) (turns : List ℕ) (ks : List ℤ) where
  -- the word of the stage that is sent, and "the greatest of the eight roots"
  abbrev pub root_word : ℕ
  root_word = get_or stages (s - 1) 0

  abbrev pub last_row : ℕ
  last_row = greatest_root 8 stages

  -- the diagram of that stage
  abbrev pub diagram : Tree
  diagram = diagram_at nodes root_word

  -- no early row, and not 15
  pub record Rooted : Type 0 where
    pub early : Admitted B s (length stages)
    pub some : 1 ≤ root_word

  -- nor 14
  pub record Tabled : Type 0 where
    pub rooted : Rooted
    pub rows : (r : ℕ) → Range 1 last_row r → NodeFits (site_at B).conditions (site_at B).actions nodes r

  -- nor 22
  pub record Shaped : Type 0 where
    pub tabled : Tabled
    pub shape : T (shaped turns diagram ks)

  -- nor 21
  pub record Proved : Type 0 where
    pub shaped : Shaped
    pub proof : T (proves (along turns diagram) ks)

  -- "all three leave everything untouched", and every other refusal does
  abbrev pub untouched : ℕ → ℕ → PruneOut
  untouched k p = record { number = k; place = p; nodes = nodes; stages = stages; work = work }

  pub data PruneRow : PruneOut → Type 0 where
    prune_0 : {N : ℕ} → Proved → Room (length nodes) (length work) N → path_needs last_row turns ≤ N → PruneRow (pruned nodes stages work s turns)
    prune_1_10 : {k p : ℕ} → EarlyRow B s (length stages) k p → PruneRow (untouched k p)
    -- "15 (for that stage only)"
    prune_15 : Admitted B s (length stages) → root_word ≡ 0 → PruneRow (untouched 15 0)
    -- "14 (up to the greatest of the eight roots)"
    prune_14 : {r : ℕ} → Rooted → Range 1 last_row r → (NodeFits (site_at B).conditions (site_at B).actions nodes r → ⊥) → PruneRow (untouched 14 0)
    -- "an empty path, one with another byte or that does not fit the diagram, or a count of multipliers other than its linear tests, with 22"
    prune_22 : Tabled → (T (shaped turns diagram ks) → ⊥) → PruneRow (untouched 22 0)
    -- "and then any other proposal with 21"
    prune_21 : Shaped → (T (proves (along turns diagram) ks) → ⊥) → PruneRow (untouched 21 0)
    -- "12, which counts the nodes up to that root and one for each turn but the last"
    prune_12 : {N : ℕ} → Proved → Room (length nodes) (length work) N → N < path_needs last_row turns → PruneRow (untouched 12 s)

-- every outcome is one row, and a row is the outcome
abbrev pub PruneRows : Type 0
PruneRows = (B : List ℕ) (nodes : List ℤ) (stages work : List ℕ) (s : ℕ) (turns : List ℕ) (ks : List ℤ) (o : PruneOut)
    → PruneRow B nodes stages work s turns ks o ↔ (prune B nodes stages work s turns ks ≡ o)
