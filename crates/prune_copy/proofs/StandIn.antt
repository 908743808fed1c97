-- What stands in for a row, and a node turned to it.
use mathlib.Core.Path.{◌≡◌, sym, ap, ap₂, ◌∙◌}
use mathlib.Core.Bool.{Bool, true, false, not}
use mathlib.Core.List.{List}
use Prim.Native.Nat.{ℕ, ◌+◌, ◌-◌, ◌^◌, ◌≤◌, ◌<◌}
use native.Mathlib.Omega.{arith}
use borrow.Author.Tests.{lt-ltb, le-ltb}
use lib.IntN.{ℤ, pos}
use lib.ListN.{length}
use mir.Syntax.{w64}
use mir.Val.{to_z}
use Rattle.whole.specs.Cases.{if}
use Rattle.table.specs.Table.{node_at, put_at}
use Rattle.table.specs.declared.Node.{Node}
use Rattle.table.proofs.Words.{back}
use Rattle.prune_rows.specs.Rows.{branch_at}
use Rattle.prune_copy.specs.Copy.{is_high, next_at, stand_in, turned, below, CopyReady, CopyStepped}

module _ (x : Node) {high : Bool} (b : ℕ) where
  pub turned_high : high ≡ true → turned x high b ≡ record { kind = x.kind; n = x.n; high = pos b; low = x.low }
  unfolding turned
  turned_high e = ap (λ (h : Bool). if h (record { kind = x.kind; n = x.n; high = pos b; low = x.low }) (record { kind = x.kind; n = x.n; high = x.high; low = pos b })) e

  pub turned_low : high ≡ false → turned x high b ≡ record { kind = x.kind; n = x.n; high = x.high; low = pos b }
  unfolding turned
  turned_low e = ap (λ (h : Bool). if h (record { kind = x.kind; n = x.n; high = pos b; low = x.low }) (record { kind = x.kind; n = x.n; high = x.high; low = pos b })) e

  -- as the code stores the word
  pub stored_high : b < 2 ^ 63 → high ≡ true → ◌≡◌ {A = Node} (record { kind = x.kind; n = x.n; high = to_z w64 b; low = x.low }) (turned x high b)
  stored_high h e = (λ i. record { kind = x.kind; n = x.n; high = back (pos b) h i; low = x.low }) ∙ sym (turned_high e)

  pub stored_low : b < 2 ^ 63 → high ≡ false → ◌≡◌ {A = Node} (record { kind = x.kind; n = x.n; high = x.high; low = to_z w64 b }) (turned x high b)
  stored_low h e = (λ i. record { kind = x.kind; n = x.n; high = x.high; low = back (pos b) h i }) ∙ sym (turned_low e)

module _ (W : List ℤ) (turns : List ℕ) (k r c : ℕ) where
  -- its copy, and its other branch
  pub stands_copy : k + 1 < length turns → stand_in W turns k r c ≡ c
  unfolding stand_in
  stands_copy h = ap (λ (b : Bool). if b c (branch_at W r (not (is_high turns k)))) (lt-ltb (k + 1) (length turns) h)

  pub stands_other : length turns ≤ k + 1 → stand_in W turns k r c ≡ branch_at W r (not (is_high turns k))
  unfolding stand_in
  stands_other h = ap (λ (b : Bool). if b c (branch_at W r (not (is_high turns k)))) (le-ltb (k + 1) (length turns) h)

-- ---- a row copied, as the code does it

module _ {l : List ℤ} {turns : List ℕ} {k r c next b : ℕ} (R : CopyReady l turns k r c) (en : next ≡ next_at l turns k r) (eb : b ≡ stand_in l turns (k + 1) next (c - 1)) where
  below_is : b ≡ below l turns k r c
  below_is = eb ∙ ap (λ (j : ℕ). stand_in l turns (k + 1) j (c - 1)) en

  pub lower_is : b < c
  lower_is = omega (arith, below_is, R.lower)

  pub stepped : {l' : List ℤ} {x y : Node} → x ≡ node_at l (r - 1) → y ≡ turned x (is_high turns k) b → l' ≡ put_at l (c - 1) y → CopyStepped l turns k r c l' next
  stepped ex ey el = record { goes = en; nodes = el ∙ ap (put_at l (c - 1)) (ey ∙ ap₂ (λ (z : Node) (j : ℕ). turned z (is_high turns k) j) ex below_is) }
