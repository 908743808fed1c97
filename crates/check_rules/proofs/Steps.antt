-- Each step leaves the table right.
use mathlib.Core.Path.{◌≡◌, refl, sym, ap, ◌∙◌, subst}
use mathlib.Core.Bool.{Bool, true, false}
use mathlib.Core.List.{List}
use Prim.Native.Nat.{ℕ, zero, suc, ◌≤◌, ◌<◌}
use native.Mathlib.Nat.{le_trans}
use native.Mathlib.Omega.{arith}
use borrow.Author.Tests.{eqb-true, eqb-false}
use lib.Dec.{eqb}
use lib.IntN.{ℤ, pos}
use lib.ListN.{length, get_or, set, replicate}
use lib.Seq.{get_or-set_same, get_or-set_other}
use mir.Syntax.{w64}
use mir.Val.{to_z}
use Rattle.table.specs.Table.{Answer}
use Rattle.whole.specs.Linears.{coefficients, numbers}
use Rattle.whole.specs.Within.{Small}
use Rattle.whole.proofs.Signed.{plain}
use Rattle.theory.specs.Computation.{Comp}
use Rattle.theory.specs.Diagram.{Tree}
use Rattle.rule_node.specs.Nodes.{Proper}
use Rattle.rule_node.specs.Table.{Table, RuleRan, Grew}
use Rattle.rule_node.specs.EntryMeaning.{rule_of}
use Rattle.rule_node.specs.Roots.{linear_node}
use Rattle.rule_node.proofs.Outcomes.{lifted}
use Rattle.rule_node.proofs.Meanings.{proper_linear}
use Rattle.check_rules.specs.Held.{cap, RulesHeld}

pub held : {l l₁ : List ℤ} {w w₁ : List ℕ} {n : ℕ} {m : Comp Tree} {r : Answer} → RuleRan rule_of cap l w n m l₁ w₁ r → RulesHeld n l₁ w₁ r
held Q = record { table = Q.table; within = Q.within; more = Q.more }

pub held_grew : {l l₁ : List ℤ} {w w₁ : List ℕ} {n : ℕ} {m : Comp Tree} {r : Answer} → Table rule_of cap l w n → Grew cap l w n m l₁ w₁ r → RulesHeld n l₁ w₁ r
held_grew A Q = held (lifted A Q)

-- one step after another
pub held_on : {n m : ℕ} {l : List ℤ} {w : List ℕ} {r : Answer} → n ≤ m → RulesHeld m l w r → RulesHeld n l w r
held_on h H = record { table = H.table; within = H.within; more = le_trans h H.more }

plain_small : (a : ℕ) → a ≤ 1000000 → Small (to_z w64 a)
plain_small a h = subst Small (sym (plain a (omega arith))) (record { small = omega arith })

-- one number of a list set
small_set : (l : List ℤ) (i : ℕ) (z : ℤ) → i < length l → Small z → ((k : ℕ) → Small (get_or l k (pos 0))) → (k : ℕ) → Small (get_or (set l i z) k (pos 0))
small_set l i z h s f k = go (eqb k i) refl
  where
    go : (b : Bool) → eqb k i ≡ b → Small (get_or (set l i z) k (pos 0))
    go true e = subst Small (sym (ap (λ (j : ℕ). get_or (set l i z) j (pos 0)) (eqb-true k i e) ∙ get_or-set_same l i z (pos 0) h)) s
    go false e = subst Small (sym (get_or-set_other l i k z (pos 0) (eqb-false k i e))) (f k)

-- no numbers but zeros
zeros : (n k : ℕ) → get_or (replicate n (pos 0)) k (pos 0) ≡ pos 0
zeros zero k = refl
zeros (suc n) zero = refl
zeros (suc n) (suc k) = zeros n k

-- the test of a step: L1 and a constant
abbrev first : List ℤ
first = set (replicate numbers (pos 0)) 0 (pos 1)

abbrev stepped : ℤ → List ℤ
stepped z = set first coefficients z

pub proper_at : (a : ℕ) → a ≤ 1000000 → Proper (record { kind = pos 2; n = stepped (to_z w64 a); high = pos 0; low = pos 0 })
unfolding linear_node
proper_at a h = proper_linear (stepped (to_z w64 a)) (record {
  long = refl;
  each = small_set first coefficients (to_z w64 a) (omega arith) (plain_small a h)
      (small_set (replicate numbers (pos 0)) 0 (pos 1) (omega arith) (record { small = omega arith })
      (λ k. subst Small (sym (zeros numbers k)) (record { small = omega arith })));
})
