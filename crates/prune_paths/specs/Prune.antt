-- "Paths that no state can take": the certificate, the cut, the diagrams made anew, and the call as one function of its inputs.
use Rattle.std.specs.Prelude.{Bool, true, false, not, ◌&&◌, List, [], ◌∷◌, ℕ, zero, suc, ◌+◌, ◌-◌, ◌≤◌, T, eqb, ltb, ℤ, pos, nat_abs, neg_ℤ, length, get_or, replicate}
use Rattle.std.proofs.Math.Dec.{compare_is_eq}
use Rattle.std.specs.Int.Signed.{le_z}
use Rattle.whole.specs.Cases.{if}
use Rattle.theory.specs.Widths.{steps_most, conditions_most}
use Rattle.theory.specs.Diagram.{Linear, Test, now, later, linear, Leaf, some, forbidden, Tree, leaf, branch, cmp_ℤ, ◌⊞◌, ◌⊠◌, zeros}
use Rattle.theory.specs.Computation.{Comp, make, result}
use Rattle.theory.specs.Rules.{node, over, zero_leaf}
use Rattle.theory.specs.Meaning.{Env, holds}
use Rattle.theory.specs.Valid.{all}
use Rattle.theory.specs.Verdict.{Verdict, refusal, or, from_to}
use Rattle.theory.specs.Load.{site_at}
use Rattle.theory.specs.Solve.{room, early, number_of, table_of, solved_nodes}
use Rattle.theory.specs.Value.{node_word, node_linear, high_of, low_of, good_row, ends}
use Rattle.theory.specs.Listing.{greatest_root}

-- ---- the diagrams of a table, whatever wrote it

-- node r as a leaf; "A leaf "none" has kind 3"
unfoldable pub leaf_at : List ℤ → ℕ → Leaf
leaf_at W r = if (eqb (nat_abs (node_word W r 0)) 3) forbidden (some (node_linear W r) (nat_abs (high_of W r)))

-- node r's test
unfoldable pub test_at : List ℤ → ℕ → Test
test_at W r = if (eqb (nat_abs (node_word W r 0)) 1) (now (nat_abs (node_word W r 1))) (linear (node_linear W r))

-- node r's branches
abbrev pub high_at : List ℤ → ℕ → ℕ
high_at W r = nat_abs (high_of W r)

abbrev pub low_at : List ℤ → ℕ → ℕ
low_at W r = nat_abs (low_of W r)

-- the diagram of node r; branches lie below their nodes, so r steps are enough
unfoldable pub tree_from : ℕ → List ℤ → ℕ → Tree
tree_from zero W r = zero_leaf
tree_from (suc k) W r = if (ends (nat_abs (node_word W r 0))) (leaf (leaf_at W r)) (branch (test_at W r) (tree_from k W (high_at W r)) (tree_from k W (low_at W r)))

abbrev pub diagram_at : List ℤ → ℕ → Tree
diagram_at W r = tree_from r W r

-- nodes 1 to r are as the layout has them, for some numbers of conditions and actions: what the code asks of a table
pub record GoodRows (W : List ℤ) (r : ℕ) : Type 0 where
  pub conditions : ℕ
  pub actions : ℕ
  pub few : conditions ≤ conditions_most
  pub rows : (i : ℕ) → 1 ≤ i → i ≤ r → T (good_row conditions actions W i)

-- ---- the path: "the turns from the root (a byte each, 1 high, 0 low)"

-- every turn is 1 or 0 and is taken at a condition or a test
unfoldable pub fits : List ℕ → Tree → Bool
fits [] F = true
fits (b ∷ bs) (leaf f) = false
fits (b ∷ bs) (branch t h l) = if (eqb b 1) (fits bs h) (eqb b 0 && fits bs l)

-- a linear test on the way, and the side taken at it
pub record Side : Type 0 where
  pub high : Bool
  pub lin : Linear

-- a test before those that follow; conditions left out
unfoldable pub with_side : Bool → Test → List Side → List Side
with_side b (now k) l = l
with_side b (later k) l = l
with_side b (linear p) l = record { high = b; lin = p } ∷ l

-- "each linear test on the way", the last node's too
unfoldable pub along : List ℕ → Tree → List Side
along [] F = []
along (b ∷ bs) (leaf f) = []
along (b ∷ bs) (branch t h l) = if (eqb b 1) (with_side true t (along bs h)) (with_side false t (along bs l))

-- ---- the certificate

-- "High sides read p ≤ 0, low sides −p < 0": p or −p, times a multiplier
unfoldable pub turned : Side → ℤ → Linear
turned s k = if s.high k (neg_ℤ k) ⊠ s.lin

-- "The planner adds them up with the multipliers."
unfoldable pub added : List Side → List ℤ → Linear
added [] ks = record { coeffs = []; const = pos 0 }
added (s ∷ ss) [] = record { coeffs = []; const = pos 0 }
added (s ∷ ss) (k ∷ ks) = turned s k ⊞ added ss ks

-- "some low side's multiplier above zero"
unfoldable pub low_used : List Side → List ℤ → Bool
low_used [] ks = false
low_used (s ∷ ss) [] = false
low_used (s ∷ ss) (k ∷ ks) = or (not s.high && le_z (pos 1) k) (low_used ss ks)

-- "all coefficients cancel and the constant is above zero, or is zero with some low side's multiplier above zero"
unfoldable pub contradicts : Linear → Bool → Bool
contradicts p low = zeros p.coeffs && or (le_z (pos 1) p.const) (compare_is_eq (cmp_ℤ p.const (pos 0)) && low)

-- "a signed 32-bit whole multiplier, zero or more"
unfoldable pub proves : List Side → List ℤ → Bool
proves ss ks = all (le_z (pos 0)) ks && contradicts (added ss ks) (low_used ss ks)

-- a state takes every turn of a path
unfoldable pub takes : Env → List ℕ → Tree → Bool
takes e [] F = true
takes e (b ∷ bs) (leaf f) = false
takes e (b ∷ bs) (branch t h l) = if (holds e t) (eqb b 1 && takes e bs h) (not (eqb b 1) && takes e bs l)

-- ---- what an accepted path leaves

-- "An accepted path's last node is replaced, on that path only, by its other branch"
unfoldable pub cut : List ℕ → Tree → Tree
cut [] F = F
cut (b ∷ bs) (leaf f) = leaf f
cut (b ∷ []) (branch t h l) = if (eqb b 1) l h
cut (b ∷ c ∷ bs) (branch t h l) = if (eqb b 1) (branch t (cut (c ∷ bs) h) l) (branch t h (cut (c ∷ bs) l))

-- "then all nodes are made anew, their tests as they stand"
unfoldable pub remade : Tree → Comp Tree
remade = over node (λ f. make (leaf f))

-- stage h's diagram made anew, stage s being cut
unfoldable pub stage_anew : List ℤ → ℕ → List ℕ → ℕ → ℕ → Tree
stage_anew W s turns h r = result (remade (if (eqb h s) (cut turns (diagram_at W r)) (diagram_at W r)))

-- the diagrams of stage words, the first being stage h's; a word 0 has none
unfoldable pub stages_anew : List ℤ → ℕ → List ℕ → ℕ → List ℕ → List Tree
stages_anew W s turns h [] = []
stages_anew W s turns h (r ∷ rs) = if (eqb r 0) (stages_anew W s turns (suc h) rs) (stage_anew W s turns h r ∷ stages_anew W s turns (suc h) rs)

-- their numbers in a table; a word 0 stays 0
unfoldable pub words_anew : List ℤ → ℕ → List ℕ → List Tree → ℕ → List ℕ → List ℕ
words_anew W s turns X h [] = []
words_anew W s turns X h (r ∷ rs) = if (eqb r 0) 0 (number_of (stage_anew W s turns h r) X) ∷ words_anew W s turns X (suc h) rs

-- ---- the outcome

-- number and place, and the words that were lent, as they are left
pub record PruneOut : Type 0 where
  pub number : ℕ
  pub place : ℕ
  pub nodes : List ℤ
  pub stages : List ℕ
  pub work : List ℕ

-- a path is there, fits, and has as many multipliers as linear tests
unfoldable pub shaped : List ℕ → Tree → List ℤ → Bool
shaped turns F ks = not (eqb (length turns) 0) && (fits turns F && eqb (length ks) (length (along turns F)))

-- 22 and then 21, 0 where neither is given
unfoldable pub path_number : List ℕ → Tree → List ℤ → ℕ
path_number turns F ks = if (shaped turns F ks) (if (proves (along turns F) ks) 0 21) 22

-- "12, which counts the nodes up to that root and one for each turn but the last"
unfoldable pub path_needs : ℕ → List ℕ → ℕ
path_needs root turns = root + (length turns - 1)

-- "after 15 (for that stage only) and 14 (up to the greatest of the eight roots), before 12"
unfoldable pub prune_refusal : List ℕ → List ℤ → List ℕ → ℕ → ℕ → List ℕ → List ℤ → Verdict
prune_refusal B nodes stages N s turns ks =
    let v = early B s (length stages) in
    let S = site_at B in
    let G = greatest_root steps_most stages in
    let root = get_or stages (s - 1) 0 in
    let k = path_number turns (diagram_at nodes root) ks in
    if (not (eqb v.number 0)) v
    (if (eqb root 0) (refusal 15 0)
    (if (not (all (good_row S.conditions S.actions nodes) (from_to 1 G))) (refusal 14 0)
    (if (not (eqb k 0)) (refusal k 0)
    (if (ltb N (path_needs G turns)) (refusal 12 s)
    (refusal 0 0)))))

-- "the tables are numbered afresh, as after solving"
unfoldable pub pruned : List ℤ → List ℕ → List ℕ → ℕ → List ℕ → PruneOut
pruned nodes stages work s turns =
    let S = stages_anew nodes s turns 1 stages in
    record { number = 0; place = 0; nodes = solved_nodes (length nodes) S; stages = words_anew nodes s turns (table_of S) 1 stages; work = replicate (length work) 0 }

-- a path for a stage: refused with everything untouched, or cut off
unfoldable pub prune : List ℕ → List ℤ → List ℕ → List ℕ → ℕ → List ℕ → List ℤ → PruneOut
prune B nodes stages work s turns ks =
    let v = prune_refusal B nodes stages (room (length nodes) (length work)) s turns ks in
    if (eqb v.number 0) (pruned nodes stages work s turns)
    (record { number = v.number; place = v.place; nodes = nodes; stages = stages; work = work })
