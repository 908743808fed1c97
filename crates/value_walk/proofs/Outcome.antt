-- The outcome at a leaf, and after the model has been judged.
use mathlib.Core.Path.{◌≡◌, ap, ◌∙◌}
use mathlib.Core.Bool.{Bool, true, false}
use mathlib.Core.List.{List}
use Prim.Native.Nat.{ℕ}
use borrow.Author.Tests.{eq-eqb, ne_eqb}
use lib.IntN.{ℤ, nat_abs}
use Rattle.whole.specs.declared.Numerator.{Numerator}
use Rattle.whole.specs.Numerator.{words}
use Rattle.theory.specs.Value.{Asked, node_linear, high_of, accepted, numerator_of, walk, ValueOut, refused_value, value_at}
use Rattle.value_walk.specs.Out.{value_after}

module _ (q : Asked) (W : List ℤ) (r : ℕ) where
  pub at_none : r ≡ 0 → {v : ValueOut} → v ≡ refused_value 14 0 → v ≡ value_at q W r
  unfolding value_at
  at_none e p = rw (eq-eqb r 0 e) p

  pub at_leaf : (r ≡ 0 → ⊥) → {k : ℕ} {x : Numerator} → k ≡ nat_abs (high_of W r) → x ≡ words (numerator_of q (node_linear W r)) → ◌≡◌ {A = ValueOut} (record { number = 0; place = 0; action = k; numerator = x }) (value_at q W r)
  unfolding value_at
  at_leaf z e p = rw (ne_eqb r 0 z) (λ i. record { number = 0; place = 0; action = e i; numerator = p i })

module _ (m n A : ℕ) (W : List ℤ) (root : ℕ) (q : Asked) where
  pub not_accepted : {b : Bool} → b ≡ accepted m n q → b ≡ false → {v : ValueOut} → v ≡ refused_value 13 0 → v ≡ value_after m n A W root q
  unfolding value_after
  not_accepted e f p = rw (← e, f) p

  pub no_root : {b : Bool} → b ≡ accepted m n q → b ≡ true → root ≡ 0 → {v : ValueOut} → v ≡ refused_value 15 0 → v ≡ value_after m n A W root q
  unfolding value_after
  no_root e f z p = rw (← e, f, eq-eqb root 0 z) p

  pub walked : {b : Bool} → b ≡ accepted m n q → b ≡ true → (root ≡ 0 → ⊥) → {r : ℕ} → r ≡ walk n A q W root root → {v : ValueOut} → v ≡ value_at q W r → v ≡ value_after m n A W root q
  unfolding value_after
  walked e f z g p = rw (← e, f, ne_eqb root 0 z) (p ∙ ap (value_at q W) g)
