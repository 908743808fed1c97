-- A condition summed out on the table.
use mathlib.Core.Path.{◌≡◌, ap, ◌∙◌}
use mathlib.Core.List.{List}
use Prim.Native.Nat.{ℕ, ◌≤◌, ◌<◌}
use native.Mathlib.Nat.{lt_of_lt_of_le}
use native.Mathlib.Omega.{arith}
use lib.IntN.{ℤ}
use mathlib.Core.Bool.{true, false}
use Rattle.table.specs.Table.{Answer, stop_of, at_of, count_of}
use Rattle.theory.specs.Widths.{conditions_most, weights_most}
use Rattle.theory.specs.Diagram.{Tree}
use Rattle.theory.specs.Computation.{Comp, bind}
use Rattle.theory.specs.Rules.{sum, product, complement, side, expectation}
use Rattle.rule_node.specs.Nodes.{tree_at}
use Rattle.rule_node.specs.Table.{Table, RuleRan}
use Rattle.rule_node.specs.EntryMeaning.{rule_of}
use Rattle.rule_node.proofs.Trees.{trees_kept, grown_on}
use Rattle.rule_node.proofs.Outcomes.{grown, stop, seq, ran_as}
use Rattle.rule_node.proofs.Meanings.{rule_sum, rule_product, rule_yes, rule_no, lasts_no}
use Rattle.rule_unary.specs.Picks.{Picks}
use Rattle.theory.proofs.laws.Comps.{bind_bind}

pub yes_picks : {k : ℕ} → 0 < k → k ≤ conditions_most → Picks 7 k
yes_picks a b = record { from = omega arith; to = omega arith; some = a; most = b }

pub no_picks : {k : ℕ} → 0 < k → k ≤ conditions_most → Picks 8 k
no_picks a b = record { from = omega arith; to = omega arith; some = a; most = b }

-- ---- a weighted side

module _ {cap : ℕ} {l l₁ : List ℤ} {w w₁ : List ℕ} {n : ℕ} {m : Comp Tree} (v : ℕ) (hv : v < n) {y : Answer} (Q : RuleRan rule_of cap l w n m l₁ w₁ y) where
  abbrev Weighted : List ℤ → List ℕ → Answer → Type 0
  Weighted = RuleRan rule_of cap l w n (bind m (product (tree_at l n v)))

  pub weighted_stops : (stop_of y ≡ 0 → ⊥) → Weighted l₁ w₁ y
  weighted_stops off = stop _ Q off

  module _ (ok : stop_of y ≡ 0) where
    pub weighted_asks : Table rule_of cap l₁ w₁ (count_of y) × (v < (count_of y)) × ((at_of y) < (count_of y))
    weighted_asks = (Q.table, lt_of_lt_of_le hv Q.more, Q.within ok)

    pub weighted_made : {l₂ : List ℤ} {w₂ : List ℕ} {r : Answer} → RuleRan rule_of cap l₁ w₁ (count_of y) (rule_of l₁ (count_of y) 1 v (at_of y) 0 0) l₂ w₂ r → Weighted l₂ w₂ r
    weighted_made P = seq _ Q ok (ran_as (rule_product l₁ (count_of y) v (at_of y) 0 0 ∙ ap (λ (z : Tree). product z (tree_at l₁ (count_of y) (at_of y))) (trees_kept (grown Q) v hv)) P)

-- ---- both sides

-- side and product taken together
paired : (W k : ℕ) (D F : Tree) → bind (bind (side true k F) (product D)) (λ P. bind (complement W D) (λ u. bind (bind (side false k F) (product u)) (λ Q. sum P Q))) ≡ expectation W D k F
unfolding expectation
paired W k D F =
    bind_bind (side true k F) (product D) (λ P. bind (complement W D) (λ u. bind (bind (side false k F) (product u)) (λ Q. sum P Q)))
    ∙ (λ i. bind (side true k F) (λ Y. bind (product D Y) (λ P. bind (complement W D) (λ u. bind_bind (side false k F) (product u) (λ Q. sum P Q) i))))

module _ {cap : ℕ} {l : List ℤ} {w : List ℕ} {n : ℕ} (A : Table rule_of cap l w n) (W k v f : ℕ) (hv : v < n) (hf : f < n) (hW : W ≤ weights_most) where
  abbrev D : Tree
  D = tree_at l n v

  abbrev yes : Comp Tree
  yes = rule_of l n 7 f 0 k 0

  abbrev no : Comp Tree
  no = rule_of l n 8 f 0 k 0

  whole_is : bind (bind yes (product D)) (λ P. bind (complement W D) (λ u. bind (bind no (product u)) (λ Q. sum P Q))) ≡ expectation W D k (tree_at l n f)
  whole_is = (λ i. bind (bind (rule_yes l n f 0 k 0 i) (product D)) (λ P. bind (complement W D) (λ u. bind (bind (rule_no l n f 0 k 0 i) (product u)) (λ Q. sum P Q)))) ∙ paired W k D (tree_at l n f)

  abbrev Expected : List ℤ → List ℕ → Answer → Type 0
  Expected = RuleRan rule_of cap l w n (expectation W D k (tree_at l n f))

  module _ {l₁ : List ℤ} {w₁ : List ℕ} {p : Answer} (Q : RuleRan rule_of cap l w n (bind yes (product D)) l₁ w₁ p) where
    pub yes_stops : (stop_of p ≡ 0 → ⊥) → Expected l₁ w₁ p
    yes_stops off = ran_as whole_is (stop _ Q off)

    pub complement_asks : Table rule_of cap l₁ w₁ (count_of p) × (v < (count_of p)) × (W ≤ weights_most)
    complement_asks = (Q.table, lt_of_lt_of_le hv Q.more, hW)

    module _ (ok : stop_of p ≡ 0) {l₂ : List ℤ} {w₂ : List ℕ} {u : Answer} (S' : RuleRan rule_of cap l₁ w₁ (count_of p) (complement W (tree_at l₁ (count_of p) v)) l₂ w₂ u) where
      S : RuleRan rule_of cap l₁ w₁ (count_of p) (complement W D) l₂ w₂ u
      S = ran_as (ap (complement W) (trees_kept (grown Q) v hv)) S'

      pub complement_stops : (stop_of u ≡ 0 → ⊥) → Expected l₂ w₂ u
      complement_stops off = ran_as whole_is (seq _ Q ok (stop _ S off))

      module _ (ok₁ : stop_of u ≡ 0) where
        pub no_asks : 0 < k → k ≤ conditions_most → Table rule_of cap l₂ w₂ (count_of u) × Picks 8 k × ((at_of u) < (count_of u)) × (f < (count_of u))
        no_asks a b = (S.table, no_picks a b, S.within ok₁, (let x = Q.more in let y = S.more in omega arith))

        module _ {l₃ : List ℤ} {w₃ : List ℕ} {q : Answer} (U' : RuleRan rule_of cap l₂ w₂ (count_of u) (bind (rule_of l₂ (count_of u) 8 f 0 k 0) (product (tree_at l₂ (count_of u) (at_of u)))) l₃ w₃ q) where
          U : RuleRan rule_of cap l₂ w₂ (count_of u) (bind no (product (tree_at l₂ (count_of u) (at_of u)))) l₃ w₃ q
          U = ran_as (ap (λ (m : Comp Tree). bind m (product (tree_at l₂ (count_of u) (at_of u)))) (lasts_no l n f hf 0 k 0 l₂ (count_of u) (grown_on (grown Q) (grown S)))) U'

          pub no_stops : (stop_of q ≡ 0 → ⊥) → Expected l₃ w₃ q
          no_stops off = ran_as whole_is (seq _ Q ok (seq _ S ok₁ (stop _ U off)))

          module _ (ok₂ : stop_of q ≡ 0) where
            pub sum_asks : Table rule_of cap l₃ w₃ (count_of q) × ((at_of p) < (count_of q)) × ((at_of q) < (count_of q))
            sum_asks = (U.table, (let a = Q.within ok in let x = S.more in let y = U.more in omega arith), U.within ok₂)

            pub expected : {l₄ : List ℤ} {w₄ : List ℕ} {r : Answer} → RuleRan rule_of cap l₃ w₃ (count_of q) (rule_of l₃ (count_of q) 0 (at_of p) (at_of q) 0 0) l₄ w₄ r → Expected l₄ w₄ r
            expected P = ran_as whole_is (seq _ Q ok (seq _ S ok₁ (seq _ U ok₂ (ran_as
                (rule_sum l₃ (count_of q) (at_of p) (at_of q) 0 0 ∙ ap (λ (z : Tree). sum z (tree_at l₃ (count_of q) (at_of q)))
                (trees_kept (grown_on (grown S) (grown U)) (at_of p) (Q.within ok))) P))))
