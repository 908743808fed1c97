-- What the code does at one node, and at all of them from the last down.
use mathlib.Core.Path.{◌≡◌, refl, sym, ap, ap₂, ◌∙◌}
use mathlib.Core.Bool.{Bool, true, false, cond}
use mathlib.Core.List.{List}
use Prim.Native.Nat.{ℕ, suc, ◌+◌, ◌-◌, ◌*◌, ◌≤◌, ◌<◌}
use native.Mathlib.Omega.{arith}
use borrow.Author.Tests.{eq-eqb, ne_eqb}
use lib.IntN.{ℤ, nat_abs}
use lib.ListN.{length, get_or, set, length-set}
use Rattle.table.specs.Table.{node_words, node_at, is_leaf}
use Rattle.table.specs.declared.Node.{Node}
use Rattle.rule_node.specs.Nodes.{Valid, Good}
use Rattle.collect_mark.specs.Mark.{mark_of, mark_step, mark_down}

-- ---- one node
module _ (l : List ℤ) (w : List ℕ) (i : ℕ) where
  pub step_zero : get_or w i 0 ≡ 0 → w ≡ mark_step l w i
  unfolding mark_step mark_of
  step_zero e = sym (rw (eq-eqb (get_or w i 0) 0 e))

  -- the node that is read
  module _ (e : get_or w i 0 ≡ 0 → ⊥) {x : Node} (ex : x ≡ node_at l i) {b : Bool} (d : b ≡ is_leaf x.kind) where
    kind_is : b ≡ is_leaf (node_at l i).kind
    kind_is = d ∙ ap (λ (y : Node). is_leaf y.kind) ex

    pub step_leaf : b ≡ true → w ≡ mark_step l w i
    unfolding mark_step mark_of
    step_leaf f = sym (rw (ne_eqb (get_or w i 0) 0 e, sym kind_is ∙ f))

    module _ (f : b ≡ false) where
      pub high_less : Valid (node_at l i) i → {h : ℕ} → h ≡ nat_abs x.high → h < i
      high_less v p = let q = v.high_below (sym kind_is ∙ f) in let r = p ∙ ap (λ (y : Node). nat_abs y.high) ex in omega arith

      pub low_less : Valid (node_at l i) i → {o : ℕ} → o ≡ nat_abs x.low → o < i
      low_less v p = let q = v.low_below (sym kind_is ∙ f) in let r = p ∙ ap (λ (y : Node). nat_abs y.low) ex in omega arith

      pub step_branch : {h o : ℕ} → h ≡ nat_abs x.high → o ≡ nat_abs x.low → set (set w h 1) o 1 ≡ mark_step l w i
      unfolding mark_step mark_of
      step_branch p q =
          ap₂ (λ (a b : ℕ). set (set w a 1) b 1) (p ∙ ap (λ (y : Node). nat_abs y.high) ex) (q ∙ ap (λ (y : Node). nat_abs y.low) ex)
          ∙ sym (rw (ne_eqb (get_or w i 0) 0 e, sym kind_is ∙ f))

step_length : (l : List ℤ) (w : List ℕ) (i : ℕ) → length (mark_step l w i) ≡ length w
unfolding mark_step
step_length l w i = go (mark_of w i) (is_leaf (node_at l i).kind)
  where
    go : (a b : Bool) → length (cond a (cond b w (set (set w (nat_abs (node_at l i).high) 1) (nat_abs (node_at l i).low) 1)) w) ≡ length w
    go false b = refl
    go true true = refl
    go true false = simp length-set

-- ---- all nodes

-- what is left to do from i on
pub record Descent (l : List ℤ) (w w' : List ℕ) (n i : ℕ) : Type 0 where
  pub left : mark_down l w' i ≡ mark_down l w n
  pub upto : i ≤ n
  pub len : length w' ≡ length w

pub begins : (l : List ℤ) (w : List ℕ) (n : ℕ) → Descent l w w n n
begins l w n = record { left = refl; upto = omega arith; len = refl }

module _ {l : List ℤ} {w w' : List ℕ} {n i : ℕ} (D : Descent l w w' n i) where
  pub asks : n * node_words ≤ length l → n ≤ length w → n ≤ 65535 → Good l n → 0 < i → ((i - 1) * node_words + node_words ≤ length l) × (i - 1 < length w') × (i - 1 ≤ 65535) × Valid (node_at l (i - 1)) (i - 1)
  asks a b c G h = let u = D.upto in let e = D.len in ((omega arith), (omega arith), (omega arith), G.valid (i - 1) (omega arith))

  pub falls : 0 < i → {w'' : List ℕ} → w'' ≡ mark_step l w' (i - 1) → Descent l w w'' n (i - 1)
  unfolding mark_down
  falls h {w''} e = record {
    left = ap (λ (t : List ℕ). mark_down l t (i - 1)) e ∙ (ap (mark_down l w') (let q : suc (i - 1) ≡ i = omega arith in q) ∙ D.left);
    upto = let u = D.upto in omega arith;
    len = ap length e ∙ (step_length l w' (i - 1) ∙ D.len);
  }

  pub ends : i ≤ 0 → w' ≡ mark_down l w n
  unfolding mark_down
  ends h = ap (mark_down l w') (let q : 0 ≡ i = omega arith in q) ∙ D.left
