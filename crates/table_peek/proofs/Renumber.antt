-- What the code's steps on one node come to.
use mathlib.Core.Path.{◌≡◌, refl, sym, ap, ◌∙◌}
use mathlib.Core.Bool.{Bool, true, false}
use mathlib.Core.List.{List}
use Prim.Native.Nat.{ℕ, ◌+◌, ◌<◌, ◌^◌}
use native.Mathlib.Omega.{arith}
use lib.IntN.{ℤ, pos, nat_abs}
use lib.ListN.{get_or}
use lib.Signed.{mag}
use Rattle.table.proofs.Words.{R, back}
use Rattle.table.specs.Table.{is_leaf}
use Rattle.table.specs.declared.Node.{Node}
use Rattle.table_peek.specs.Renumber.{renumber, InsideRoom}

module _ (w : List ℕ) (cap : ℕ) (x : Node) where
  pub leaf_stays : {b : Bool} → b ≡ is_leaf x.kind → b ≡ true → x ≡ renumber w cap x
  unfolding renumber
  leaf_stays d e = sym (rw (sym d ∙ e))

  module _ {b : Bool} (d : b ≡ is_leaf x.kind) (e : b ≡ false) (v : InsideRoom x cap) where
    pub high_less : {p : ℕ} → p ≡ nat_abs x.high → p < cap
    high_less f = let q = v.high (sym d ∙ e) in omega arith

    pub low_less : {p : ℕ} → p ≡ nat_abs x.low → p < cap
    low_less f = let q = v.low (sym d ∙ e) in omega arith

    pub branch_moves : mag x.kind < 2 ^ 63 → {p q : ℕ} {u v : ℤ} → p ≡ nat_abs x.high → q ≡ nat_abs x.low → u ≡ pos (get_or w (cap + p) 0) → v ≡ pos (get_or w (cap + q) 0)
        → get_or w (cap + p) 0 < 2 ^ 32 → get_or w (cap + q) 0 < 2 ^ 32 → ◌≡◌ {A = Node} (record { kind = R x.kind; n = x.n; high = R u; low = R v }) (renumber w cap x)
    unfolding renumber
    branch_moves fk {p} {q} {u} {v} ep eq eu ev bp bq =
        let eh : R u ≡ pos (get_or w (cap + nat_abs x.high) 0) = ap R eu ∙ (back (pos (get_or w (cap + p) 0)) (omega arith) ∙ ap (λ (k : ℕ). pos (get_or w (cap + k) 0)) ep) in
        let el : R v ≡ pos (get_or w (cap + nat_abs x.low) 0) = ap R ev ∙ (back (pos (get_or w (cap + q) 0)) (omega arith) ∙ ap (λ (k : ℕ). pos (get_or w (cap + k) 0)) eq) in
        rw (sym d ∙ e) (λ i. record { kind = back x.kind fk i; n = x.n; high = eh i; low = el i })

  -- the numbers stay
  pub numbers_stay : (renumber w cap x).n ≡ x.n
  unfolding renumber
  numbers_stay = go (is_leaf x.kind) refl
    where
      go : (b : Bool) → is_leaf x.kind ≡ b → (renumber w cap x).n ≡ x.n
      go true e = rw e
      go false e = rw e
