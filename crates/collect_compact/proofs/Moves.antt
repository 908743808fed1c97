-- What the code's steps on one node come to.
use mathlib.Core.Path.{◌≡◌, sym, ap, ◌∙◌, subst}
use mathlib.Core.List.{List}
use Prim.Native.Nat.{ℕ, ◌+◌}
use borrow.Author.Tests.{eq-eqb, ne_eqb}
use lib.IntN.{ℤ}
use lib.ListN.{get_or, set}
use Rattle.table.specs.Table.{node_at, put_at}
use Rattle.table.specs.declared.Node.{Node}
use Rattle.rule_node.specs.Nodes.{Valid}
use Rattle.collect_mark.specs.Mark.{mark_of}
use Rattle.table_peek.specs.Renumber.{renumber, InsideRoom}
use Rattle.collect_compact.specs.Slide.{SlidOne}

-- ---- one node

module _ (l : List ℤ) (w : List ℕ) (cap i j : ℕ) where
  pub one_no : get_or w i 0 ≡ 0 → SlidOne l w cap i j l w j
  unfolding mark_of
  one_no e = let t = eq-eqb (get_or w i 0) 0 e in record { next = sym (rw t); nodes = sym (rw t); work = sym (rw t) }

  pub one_yes : (get_or w i 0 ≡ 0 → ⊥) → {x y : Node} {l' : List ℤ} → x ≡ node_at l i → y ≡ renumber w cap x → l' ≡ put_at l j y → SlidOne l w cap i j l' (set w (cap + i) j) (j + 1)
  unfolding mark_of
  one_yes e ex ey el =
      let t = ne_eqb (get_or w i 0) 0 e in
      record { next = sym (rw t); nodes = el ∙ (ap (put_at l j) (ey ∙ ap (renumber w cap) ex) ∙ sym (rw t)); work = sym (rw t) }

pub inside_as : {x y : Node} {n : ℕ} → x ≡ y → Valid y n → InsideRoom x n
inside_as {x} {y} {n} e v = subst (λ (z : Node). InsideRoom z n) (sym e) (record { high = v.high_below; low = v.low_below })
