-- A node's words: what is read back from the bits, and equality.
use mathlib.Core.Path.{◌≡◌, refl, sym, ap, ◌∙◌}
use mathlib.Core.Bool.{Bool, true, false, ◌&&◌}
use lib.Pointwise.{pointwise}
use Rattle.std.specs.Bool.{Decides}
use Rattle.std.specs.Ordering.{int_eq}
use Rattle.std.specs.Cmp.Rules.{signed_items}
use Rattle.std.proofs.lemmas.Bool.Decides.{Decides-at, Decides-and, Decides-int_eq}
use Prim.Native.Nat.{ℕ, ◌^◌, ◌<◌}
use native.Mathlib.Omega.{arith}
use lib.IntN.{ℤ, pos}
use mathlib.Core.List.{List, map}
use lib.ListN.{get_or, length, length-map}
use lib.Signed.{mag}
use mir.Syntax.{w64}
use mir.Val.{to_z, of_z}
use mir.ValLaws.{to_z-of_z}
use Rattle.whole.specs.Linears.{numbers}
use Rattle.table.specs.declared.Node.{Node}
use Rattle.table.specs.Table.{SameNode, same, other}

abbrev pub R : ℤ → ℤ
R z = to_z w64 (of_z w64 z)

pub back : (z : ℤ) → mag z < 2 ^ 63 → R z ≡ z
back z f = to_z-of_z w64 z (record { sfits = f })

pub same_bits : (x y : ℤ) → mag x < 2 ^ 63 → mag y < 2 ^ 63 → of_z w64 x ≡ of_z w64 y → x ≡ y
same_bits x y fx fy e = sym (back x fx) ∙ (ap (to_z w64) e ∙ back y fy)

-- each word of a node fits
pub record Fit (x : Node) : Type 0 where
  pub kind : mag x.kind < 2 ^ 63
  pub n : (k : ℕ) → mag (get_or x.n k (pos 0)) < 2 ^ 63
  pub high : mag x.high < 2 ^ 63
  pub low : mag x.low < 2 ^ 63

-- what the derived test of equality answers
pub same_as : (x y : Node) {r : Bool} → r ≡ (int_eq x.kind y.kind && (pointwise int_eq x.n y.n && (int_eq x.high y.high && int_eq x.low y.low))) → SameNode x y r
same_as x y {r} e = go r refl
  where
    told : Decides r ((x.kind ≡ y.kind) × ((x.n ≡ y.n) × ((x.high ≡ y.high) × (x.low ≡ y.low))))
    told = Decides-at r _ e (Decides-and _ _ (Decides-int_eq x.kind y.kind) (Decides-and _ _ (signed_items x.n y.n) (Decides-and _ _ (Decides-int_eq x.high y.high) (Decides-int_eq x.low y.low))))

    go : (b : Bool) → r ≡ b → SameNode x y b
    go true t = let p = told.0 t in same (λ i. record { kind = p.0 i; n = p.1.0 i; high = p.1.1.0 i; low = p.1.1.1 i })
    go false t = other (λ q. let y = told.1 (ap (λ (z : Node). z.kind) q, (ap (λ (z : Node). z.n) q, (ap (λ (z : Node). z.high) q, ap (λ (z : Node). z.low) q))) in
        let z : ◌≡◌ {A = Bool} false true = sym t ∙ y in absurd (let z : ◌≡◌ {A = ℕ} 0 1 = cc in omega arith))

-- the length of a node's numbers, as owning the node tells it
pub as_long : (l : List ℤ) → length (map (λ (z : ℤ). z) l) ≡ numbers → length l ≡ numbers
as_long l e = sym (length-map l (λ (z : ℤ). z)) ∙ e
