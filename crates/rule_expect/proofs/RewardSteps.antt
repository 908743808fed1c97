-- An action's reward added on the table.
use Rattle.std.specs.Prelude.{Option, Some, None}
use mathlib.Core.Path.{◌≡◌, refl, sym, ap, ◌∙◌}
use mathlib.Core.List.{List, []}
use Prim.Native.Nat.{ℕ, ◌≤◌, ◌<◌}
use native.Mathlib.Nat.{lt_of_lt_of_le}
use borrow.Author.Tests.{le-leb, lt-leb}
use lib.IntN.{ℤ, pos, nat_abs}
use Rattle.table.specs.declared.Stop.TheVariants.{Over}
use Rattle.table.specs.Table.{Answer, stop_of, at_of, count_of, halted}
use Rattle.whole.specs.Within.{limit, small, limited}
use Rattle.whole.specs.WithinLaws.{limited_gives, limited_lacks}
use Rattle.whole.proofs.Signed.{R, small_back}
use Rattle.theory.specs.Widths.{actions_most}
use Rattle.theory.specs.Diagram.{Linear, Tree}
use Rattle.theory.specs.Computation.{Comp, named, bind, names, judge}
use Rattle.theory.specs.Valid.{all, small_linear}
use Rattle.theory.specs.Rules.{scale, sum, number, add_reward}
use Rattle.rule_node.specs.Nodes.{tree_at}
use Rattle.rule_node.specs.Table.{Table, RuleRan}
use Rattle.rule_node.specs.EntryMeaning.{rule_of}
use Rattle.rule_node.proofs.Trees.{trees_kept}
use Rattle.rule_node.proofs.Outcomes.{grown, stop, seq, ran_as, ran_over, ran_judged}
use Rattle.rule_node.proofs.Meanings.{rule_sum}

-- ---- a number named first

-- as a linear that has no coefficients
abbrev alone : ℤ → Linear
alone z = record { coeffs = []; const = z }

judged_alone : (z : ℤ) (m : Comp Tree) → judge (alone z) m ≡ named z m
unfolding judge names
judged_alone z m = refl

small_alone : (z : ℤ) → small_linear (alone z) ≡ small z
unfolding small_linear all
small_alone z = refl

-- ---- the reward

module _ {cap : ℕ} {l : List ℤ} {w : List ℕ} {n : ℕ} (A : Table rule_of cap l w n) (reward f power a : ℕ) (hr : reward < n) (hf : f < n) (ha : a ≤ actions_most) {o : Option ℤ} (eo : o ≡ limited (pos power)) where
  abbrev Rewarded : List ℤ → List ℕ → Answer → Type 0
  Rewarded = RuleRan rule_of cap l w n (add_reward power (tree_at l n reward) a (tree_at l n f))

  abbrev rest : Comp Tree
  rest = bind (scale (pos power) (tree_at l n reward)) (λ X. bind (sum (tree_at l n f) X) (number a))

  rest_is : judge (alone (pos power)) rest ≡ add_reward power (tree_at l n reward) a (tree_at l n f)
  unfolding add_reward
  rest_is = judged_alone (pos power) rest

  -- the power lies beyond the limits
  pub reward_over : o ≡ None → Rewarded l w (halted Over n)
  unfolding small
  reward_over e = ran_as rest_is (ran_over (alone (pos power)) rest A (small_alone (pos power) ∙ lt-leb power limit (limited_lacks (pos power) (sym eo ∙ e))))

  module _ {z : ℤ} (ez : o ≡ Some z) where
    power_small : nat_abs (pos power) ≤ limit
    power_small = (limited_gives (pos power) z (sym eo ∙ ez)).1

    -- what is scaled by, as it is read
    power_is : R z ≡ pos power
    power_is = ap R (limited_gives (pos power) z (sym eo ∙ ez)).0 ∙ small_back (pos power) (record { small = power_small })

    fine : {l' : List ℤ} {w' : List ℕ} {r : Answer} → RuleRan rule_of cap l w n rest l' w' r → Rewarded l' w' r
    unfolding small
    fine Q = ran_as rest_is (ran_judged (alone (pos power)) rest (small_alone (pos power) ∙ le-leb power limit power_small) Q)

    module _ {l₁ : List ℤ} {w₁ : List ℕ} {s : Answer} (Q' : RuleRan rule_of cap l w n (scale (R z) (tree_at l n reward)) l₁ w₁ s) where
      Q : RuleRan rule_of cap l w n (scale (pos power) (tree_at l n reward)) l₁ w₁ s
      Q = ran_as (ap (λ (z : ℤ). scale z (tree_at l n reward)) power_is) Q'

      pub scale_stops : (stop_of s ≡ 0 → ⊥) → Rewarded l₁ w₁ s
      scale_stops off = fine (stop _ Q off)

      module _ (ok : stop_of s ≡ 0) where
        pub reward_asks : Table rule_of cap l₁ w₁ (count_of s) × (f < (count_of s)) × ((at_of s) < (count_of s))
        reward_asks = (Q.table, lt_of_lt_of_le hf Q.more, Q.within ok)

        module _ {l₂ : List ℤ} {w₂ : List ℕ} {t : Answer} (S' : RuleRan rule_of cap l₁ w₁ (count_of s) (rule_of l₁ (count_of s) 0 f (at_of s) 0 0) l₂ w₂ t) where
          S : RuleRan rule_of cap l₁ w₁ (count_of s) (sum (tree_at l n f) (tree_at l₁ (count_of s) (at_of s))) l₂ w₂ t
          S = ran_as (rule_sum l₁ (count_of s) f (at_of s) 0 0 ∙ ap (λ (F : Tree). sum F (tree_at l₁ (count_of s) (at_of s))) (trees_kept (grown Q) f hf)) S'

          pub sum_stops : (stop_of t ≡ 0 → ⊥) → Rewarded l₂ w₂ t
          sum_stops off = fine (seq _ Q ok (stop _ S off))

          module _ (ok₁ : stop_of t ≡ 0) where
            pub number_asks : Table rule_of cap l₂ w₂ (count_of t) × ((at_of t) < (count_of t)) × (a ≤ actions_most)
            number_asks = (S.table, S.within ok₁, ha)

            pub rewarded : {l₃ : List ℤ} {w₃ : List ℕ} {r : Answer} → RuleRan rule_of cap l₂ w₂ (count_of t) (number a (tree_at l₂ (count_of t) (at_of t))) l₃ w₃ r → Rewarded l₃ w₃ r
            rewarded P = fine (seq _ Q ok (seq _ S ok₁ P))
