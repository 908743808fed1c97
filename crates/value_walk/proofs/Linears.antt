-- A linear at a state: its numbers are small, and the sum of products is theory's.
use mathlib.Core.Path.{◌≡◌, refl, sym, ap, ◌∙◌, subst}
use mathlib.Core.Bool.{Bool}
use mathlib.Core.List.{List, [], ◌∷◌}
use Prim.Native.Nat.{ℕ, ◌-◌}
use lib.Dec.{T}
use lib.IntN.{ℤ, pos, ◌+ℤ◌, ◌*ℤ◌}
use lib.ListN.{length, get_or, take}
use lib.Signed.{le_z}
use Rattle.whole.specs.Cases.{is_true}
use Rattle.whole.specs.Linears.{numbers, Smalls, dot_list}
use Rattle.whole.specs.LinearsLaws.{dot_last, smalls_of}
use Rattle.whole.specs.declared.Numerator.{Numerator}
use Rattle.whole.specs.Numerator.{number, words}
use Rattle.whole.specs.NumeratorLaws.{number_words}
use Rattle.table.specs.declared.Node.{Node}
use Rattle.table.specs.Table.{node_at}
use Rattle.theory.specs.Widths.{levels_most}
use Rattle.theory.specs.Meaning.{dot}
use Rattle.theory.specs.Valid.{small_linear}
use Rattle.theory.specs.Value.{node_linear, numerator_of}
use Rattle.table_rows.specs.Row.{Inside, row_numbers}
use Rattle.table_rows.proofs.Rowed.{numbers_long, numbers_small, linear_is}
use Rattle.value_walk.specs.declared.Asked.{Asked}
use Rattle.value_walk.specs.State.{asked}

-- the sum of products is theory's
dot_same : (a b : List ℤ) → dot_list a b ≡ dot a b
unfolding dot_list dot
dot_same [] b = refl
dot_same (x ∷ a) [] = refl
dot_same (x ∷ a) (y ∷ b) = ap (λ (z : ℤ). (x *ℤ y) +ℤ z) (dot_same a b)

module _ (W : List ℤ) (r : ℕ) (h : Inside W r) {x : Node} (e : x ≡ node_at W (r - 1)) where
  numbers_are : x.n ≡ row_numbers W r
  unfolding node_at
  numbers_are = ap (λ (y : Node). y.n) e

  pub row_small : T (small_linear (node_linear W r)) → Smalls x.n
  row_small t = subst Smalls (sym numbers_are) (smalls_of (row_numbers W r) (numbers_long W r h) (numbers_small W r h ∙ is_true (small_linear (node_linear W r)) t))

  pub numerator_is : (q : Asked) → length q.n ≡ numbers → {y : Numerator} → y ≡ words (dot_list x.n q.n) → y ≡ words (numerator_of (asked q) (node_linear W r))
  unfolding numerator_of
  numerator_is q n f =
      let N : List ℤ = row_numbers W r in
      f ∙ ap words
      (ap (λ (l : List ℤ). dot_list l q.n) numbers_are
      ∙ (dot_last levels_most N q.n (numbers_long W r h) n
      ∙ (ap (λ (z : ℤ). z +ℤ get_or N levels_most (pos 0) *ℤ get_or q.n levels_most (pos 0)) (dot_same (take levels_most N) (take levels_most q.n))
      ∙ ap (numerator_of (asked q)) (sym (linear_is W r h)))))

-- a numerator's test is the test of what it holds
pub test_is : {b : Bool} {x : Numerator} (z : ℤ) → b ≡ le_z (number x) (pos 0) → x ≡ words z → b ≡ le_z z (pos 0)
test_is z e p = e ∙ ap (λ (v : ℤ). le_z v (pos 0)) (ap number p ∙ number_words z)
