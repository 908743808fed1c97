-- Linears added, subtracted and multiplied: as the code computes them, and as leaves' rules name them.
use mathlib.Core.Path.{◌≡◌, refl, sym, ap, ap₂, ◌∙◌}
use mathlib.Core.Bool.{Bool, true, false, ◌&&◌}
use mathlib.Core.List.{List, [], ◌∷◌, map}
use Prim.Native.Nat.{ℕ, zero, suc, ◌^◌, ◌<◌}
use native.Mathlib.Omega.{arith}
use borrow.Author.Tests.{leb-true}
use lib.Dec.{compare_is_eq}
use lib.IntN.{ℤ, pos, negsuc, ◌+ℤ◌, ◌*ℤ◌}
use lib.ListN.{length, get_or, take}
use mir.Syntax.{w64}
use mir.Val.{SFits, of_z}
use lib.Signed.{le_z, mag}
use Rattle.whole.specs.Cases.{if, both, and_in, from_true, is_true, same_bool}
use Rattle.std.specs.Prelude.{IsTrue, ◌↔◌, T}
use Rattle.std.specs.List.{All}
use Rattle.std.proofs.lemmas.List.Elements.{All-nil, All-cons, All-head, All-tail}
use mathlib.Core.Path.{subst}
use Rattle.whole.specs.Linears.{numbers, clipped, clip_list}
use Rattle.whole.specs.LinearsLaws.{add_take, add_at, scale_length, scale_take, scale_at, clip_at, sub_length}
use Rattle.whole.specs.Within.{small}
use Rattle.whole.proofs.Clipped.{small_clipped, clipped_in}
use Rattle.whole.proofs.Signed.{R, back}
use Rattle.table.proofs.Words.{same_bits}
use Rattle.table.specs.Table.{is_none}
use Rattle.table.specs.declared.Node.{Node}
use Rattle.theory.specs.Widths.{levels_most}
use Rattle.theory.proofs.laws.Comps.{run_judge, cmp_ℤ_eq, cmp_ℤ_refl}
use Rattle.theory.specs.Diagram.{Linear, lin_of, zero_linear, no_coeffs, Tree, leaf, plain, cmp_ℤ, zeros, test_of, add_list, scale_list, ◌⊞◌, ◌⊠◌, ◌⊟◌}
use Rattle.theory.specs.Computation.{Comp, ret, make, stopped, run}
use Rattle.theory.specs.Rules.{choose, decide, make_leaf, zero_leaf, none_leaf, leaf_scale}
use Rattle.theory.specs.Valid.{all, small_linear}
use Rattle.rule_node.specs.Nodes.{linear_held, constant_of, leaf_of, Nums, Valid}
use Rattle.rule_node.proofs.Trees.{leaf_none, leaf_some, leaf_lin}
use Rattle.rule_leaves.specs.Leaves.{leaf_node, sum_node, less_node, product_node, stays_none}

-- ---- the linear of a result

pub sum_lin : (x y : Node) → Nums x → Nums y → linear_held (sum_node x y) ≡ linear_held x ⊞ linear_held y
unfolding sum_node linear_held ◌⊞◌
sum_lin x y p q =
    let e : length x.n ≡ length y.n = p.long ∙ sym q.long in
    λ i. record { coeffs = add_take levels_most x.n y.n e i; const = add_at x.n y.n e levels_most i }

pub less_lin : (x y : Node) → Nums x → Nums y → linear_held (less_node x y) ≡ linear_held x ⊟ linear_held y
unfolding less_node linear_held ◌⊟◌ ◌⊞◌ ◌⊠◌
less_lin x y p q =
    let d : length (scale_list (negsuc 0) y.n) ≡ length y.n = scale_length (negsuc 0) y.n in
    let e : length x.n ≡ length (scale_list (negsuc 0) y.n) = p.long ∙ sym (d ∙ q.long) in
    let k : levels_most < length y.n = let w = q.long in omega arith in
    λ i. record {
      coeffs = (add_take levels_most x.n (scale_list (negsuc 0) y.n) e ∙ ap (add_list (take levels_most x.n)) (scale_take levels_most (negsuc 0) y.n)) i;
      const = (add_at x.n (scale_list (negsuc 0) y.n) e levels_most ∙ ap (λ (z : ℤ). constant_of x +ℤ z) (scale_at (negsuc 0) y.n levels_most k)) i;
    }

both_true : (a b : Bool) → (a && b) ≡ true → (a ≡ true) × (b ≡ true)
both_true true b e = (refl, e)
both_true false b e = absurd (let z : ◌≡◌ {A = ℕ} 0 1 = cc in omega arith)

-- ---- a product, clipped

clipped_all : (l : List ℤ) → all small (map clipped l) ≡ all small l
unfolding all
clipped_all [] = refl
clipped_all (z ∷ l) = ap₂ ◌&&◌ (small_clipped z) (clipped_all l)

clipped_same : (l : List ℤ) → all small (map clipped l) ≡ true → map clipped l ≡ l
unfolding all small
clipped_same [] e = refl
clipped_same (z ∷ l) e =
    let d = both_true (small (clipped z)) (all small (map clipped l)) e in
    ap₂ ◌∷◌ (clipped_in z (record { small = leb-true _ _ d.0 })) (clipped_same l d.1)

map_take : (m : ℕ) (l : List ℤ) → take m (map clipped l) ≡ map clipped (take m l)
map_take zero l = refl
map_take (suc m) [] = refl
map_take (suc m) (z ∷ l) = ap (λ (r : List ℤ). clipped z ∷ r) (map_take m l)

module _ (k : ℤ) (y : Node) (n : length y.n ≡ numbers) where
  coeffs_are : take levels_most (clip_list k y.n) ≡ map clipped (scale_list k (take levels_most y.n))
  coeffs_are = map_take levels_most (scale_list k y.n) ∙ ap (map clipped) (scale_take levels_most k y.n)

  const_is : get_or (clip_list k y.n) levels_most (pos 0) ≡ clipped (k *ℤ constant_of y)
  const_is = clip_at k y.n levels_most (omega arith)

  product_all : small_linear (linear_held (product_node k y)) ≡ small_linear (k ⊠ linear_held y)
  unfolding small_linear linear_held product_node ◌⊠◌
  product_all = ap₂ ◌&&◌ (ap (all small) coeffs_are ∙ clipped_all (scale_list k (take levels_most y.n))) (ap small const_is ∙ small_clipped (k *ℤ constant_of y))

  product_lin : small_linear (k ⊠ linear_held y) ≡ true → linear_held (product_node k y) ≡ k ⊠ linear_held y
  unfolding small_linear linear_held product_node ◌⊠◌ small
  product_lin e =
      let d = both_true _ _ e in
      λ i. record {
        coeffs = (coeffs_are ∙ clipped_same (scale_list k (take levels_most y.n)) (clipped_all (scale_list k (take levels_most y.n)) ∙ d.0)) i;
        const = (const_is ∙ clipped_in (k *ℤ constant_of y) (record { small = leb-true _ _ (small_clipped (k *ℤ constant_of y) ∙ d.1) })) i;
      }

over_stops : (cap : ℕ) (p : Linear) (X : List Tree) → small_linear p ≡ false → run cap (make_leaf p) X ≡ stopped 11
unfolding make_leaf
over_stops cap p X e = run_judge cap p _ X ∙ ap (λ (b : Bool). if b (run cap (make (leaf (plain p))) X) (stopped 11)) e

-- where the product is over, so is the leaf that is made of it
pub product_run : (cap : ℕ) (k : ℤ) (z : Node) → length z.n ≡ numbers → (X : List Tree) → run cap (make_leaf (linear_held (product_node k z))) X ≡ run cap (make_leaf (k ⊠ linear_held z)) X
product_run cap k z n X = go (small_linear (k ⊠ linear_held z)) refl
  where
    go : (b : Bool) → small_linear (k ⊠ linear_held z) ≡ b → run cap (make_leaf (linear_held (product_node k z))) X ≡ run cap (make_leaf (k ⊠ linear_held z)) X
    go true e = ap (λ (p : Linear). run cap (make_leaf p) X) (product_lin k z n e)
    go false e = over_stops cap (linear_held (product_node k z)) X (product_all k z n ∙ e) ∙ sym (over_stops cap (k ⊠ linear_held z) X e)

-- ---- a number times a leaf, which may be "none"

module _ (k : ℤ) (x : Node) where
  pub stays_zero : compare_is_eq (cmp_ℤ k (pos 0)) ≡ true → false ≡ stays_none k x
  unfolding stays_none
  stays_zero e = ap (λ (b : Bool). if b false (is_none x.kind)) (sym e)

  pub stays_other : compare_is_eq (cmp_ℤ k (pos 0)) ≡ false → is_none x.kind ≡ stays_none k x
  unfolding stays_none
  stays_other e = ap (λ (b : Bool). if b false (is_none x.kind)) (sym e)

  -- not by 0
  pub none_stays : stays_none k x ≡ true → is_none x.kind ≡ true
  none_stays e = go (compare_is_eq (cmp_ℤ k (pos 0))) refl
    where
      go : (b : Bool) → compare_is_eq (cmp_ℤ k (pos 0)) ≡ b → is_none x.kind ≡ true
      go true z = absurd (let y = stays_zero z ∙ e in let z : ◌≡◌ {A = ℕ} 0 1 = cc in omega arith)
      go false z = stays_other z ∙ e

  scale_none : (b : Bool) → compare_is_eq (cmp_ℤ k (pos 0)) ≡ b → is_none x.kind ≡ true → leaf_scale k (leaf_of x) ≡ make (if b zero_leaf none_leaf)
  unfolding leaf_scale
  scale_none b z e = ap (leaf_scale k) (leaf_none x e) ∙ ap (λ (b : Bool). make (if b zero_leaf none_leaf)) z

  pub scale_some : is_none x.kind ≡ false → leaf_scale k (leaf_of x) ≡ make_leaf (k ⊠ linear_held x)
  unfolding leaf_scale
  scale_some e = ap (leaf_scale k) (leaf_some x e)

  none_linear : is_none x.kind ≡ true → lin_of (leaf_of x) ≡ zero_linear
  unfolding lin_of
  none_linear e = ap lin_of (leaf_none x e)

  pub scale_stays : stays_none k x ≡ true → leaf_scale k (leaf_of x) ≡ make none_leaf
  scale_stays e = go (compare_is_eq (cmp_ℤ k (pos 0))) refl
    where
      go : (b : Bool) → compare_is_eq (cmp_ℤ k (pos 0)) ≡ b → leaf_scale k (leaf_of x) ≡ make none_leaf
      go true z = absurd (let y = stays_zero z ∙ e in let z : ◌≡◌ {A = ℕ} 0 1 = cc in omega arith)
      go false z = scale_none false z (none_stays e)

zero_product : pos 0 ⊠ zero_linear ≡ zero_linear
unfolding ◌⊠◌ scale_list no_coeffs
zero_product = refl

zero_small : small_linear zero_linear ≡ true
unfolding small_linear all small no_coeffs
zero_small = refl

-- 0 × none is the leaf 0, and its numbers need no judging
zero_run : (cap : ℕ) (X : List Tree) → run cap (make_leaf zero_linear) X ≡ run cap (make zero_leaf) X
unfolding make_leaf zero_leaf
zero_run cap X = run_judge cap zero_linear _ X ∙ ap (λ (b : Bool). if b (run cap (make (leaf (plain zero_linear))) X) (stopped 11)) zero_small

-- the leaf of the product's words is what the rule makes, where it does not stay
pub scale_run : (cap : ℕ) (k : ℤ) (x : Node) {n : ℕ} → Valid x n → stays_none k x ≡ false → (X : List Tree) → run cap (make_leaf (linear_held (product_node k x))) X ≡ run cap (leaf_scale k (leaf_of x)) X
scale_run cap k x v s X = product_run cap k x v.nums.long X ∙ go (is_none x.kind) refl
  where
    at_none : is_none x.kind ≡ true → compare_is_eq (cmp_ℤ k (pos 0)) ≡ true → run cap (make_leaf (k ⊠ linear_held x)) X ≡ run cap (leaf_scale k (leaf_of x)) X
    at_none e z =
        ap₂ (λ (k : ℤ) (p : Linear). run cap (make_leaf (k ⊠ p)) X) (cmp_ℤ_eq k (pos 0) (from_true z)) (sym (leaf_lin x v) ∙ none_linear k x e)
        ∙ (ap (λ (p : Linear). run cap (make_leaf p) X) zero_product ∙ (zero_run cap X ∙ ap (λ (m : Comp Tree). run cap m X) (sym (scale_none k x true z e))))

    go : (b : Bool) → is_none x.kind ≡ b → run cap (make_leaf (k ⊠ linear_held x)) X ≡ run cap (leaf_scale k (leaf_of x)) X
    go true e = split (compare_is_eq (cmp_ℤ k (pos 0))) refl
      where
        split : (b : Bool) → compare_is_eq (cmp_ℤ k (pos 0)) ≡ b → run cap (make_leaf (k ⊠ linear_held x)) X ≡ run cap (leaf_scale k (leaf_of x)) X
        split true z = at_none e z
        split false z = absurd (let y = sym e ∙ (stays_other k x z ∙ s) in let z : ◌≡◌ {A = ℕ} 0 1 = cc in omega arith)
    go false e = sym (ap (λ (m : Comp Tree). run cap m X) (scale_some k x e))

-- ---- a constant

pub zero_yes : (z : ℤ) → mag z < 2 ^ 63 → of_z w64 z ≡ 0 → compare_is_eq (cmp_ℤ z (pos 0)) ≡ true
zero_yes z f e = ap (λ (k : ℤ). compare_is_eq (cmp_ℤ k (pos 0))) (same_bits z (pos 0) f (omega arith) e) ∙ ap compare_is_eq (cmp_ℤ_refl (pos 0))

pub zero_no : (z : ℤ) → (of_z w64 z ≡ 0 → ⊥) → compare_is_eq (cmp_ℤ z (pos 0)) ≡ false
zero_no z n = go (compare_is_eq (cmp_ℤ z (pos 0))) refl
  where
    go : (b : Bool) → compare_is_eq (cmp_ℤ z (pos 0)) ≡ b → b ≡ false
    go true e = absurd (n (ap (of_z w64) (cmp_ℤ_eq z (pos 0) (from_true e))))
    go false e = refl

-- numbers are all 0
abbrev Zero : ℤ → Type 0
Zero z = z ≡ pos 0

zeros_in : (l : List ℤ) → All Zero l → T (zeros l)
unfolding zeros
zeros_in [] h = tt
zeros_in (z ∷ l) h =
    and_in (compare_is_eq (cmp_ℤ z (pos 0))) (zeros l) (subst (λ (y : ℤ). T (compare_is_eq (cmp_ℤ y (pos 0)))) {x = pos 0} {y = z} (sym (All-head Zero z l h)) tt) (zeros_in l (All-tail Zero z l h))

zeros_out : (l : List ℤ) → T (zeros l) → All Zero l
unfolding zeros
zeros_out [] t = All-nil Zero
zeros_out (z ∷ l) t = let d = both (compare_is_eq (cmp_ℤ z (pos 0))) (zeros l) t in All-cons Zero z l (cmp_ℤ_eq z (pos 0) d.0) (zeros_out l d.1)

pub zeros_told : {b : Bool} (l : List ℤ) → (IsTrue b ↔ All Zero l) → b ≡ zeros l
zeros_told {b} l t = same_bool b (zeros l) (λ h. zeros_in l (t.0 (is_true b h))) (λ h. from_true (t.1 (zeros_out l h)))

module _ (k : ℤ) (f g : ℕ) (fk : SFits w64 k) where
  pub decided_is : (b : Bool) → le_z (R k) (pos 0) ≡ b → if b f g ≡ if (le_z k (pos 0)) f g
  decided_is b e = ap (λ (c : Bool). if c f g) (sym e ∙ ap (λ (z : ℤ). le_z z (pos 0)) (back k fk))

-- ---- decided by a constant, or tested

pub decide_constant : (p : Linear) (H L : Tree) → zeros p.coeffs ≡ true → decide p H L ≡ if (le_z p.const (pos 0)) (ret H) (ret L)
unfolding decide
decide_constant p H L e = ap (λ (b : Bool). if b (if (le_z p.const (pos 0)) (ret H) (ret L)) (choose (test_of p) H L)) e

pub decide_test : (p : Linear) (H L : Tree) → zeros p.coeffs ≡ false → decide p H L ≡ choose (test_of p) H L
unfolding decide
decide_test p H L e = ap (λ (b : Bool). if b (if (le_z p.const (pos 0)) (ret H) (ret L)) (choose (test_of p) H L)) e

-- a product as it is read back
pub product_as : (k : ℤ) (y : Node) → SFits w64 k → {n : List ℤ} → n ≡ clip_list (R k) y.n → leaf_node n ≡ product_node k y
unfolding product_node
product_as k y f e = ap leaf_node (e ∙ ap (λ (z : ℤ). clip_list z y.n) (back k f))

pub less_long : (x y : Node) → Nums x → Nums y → length (less_node x y).n ≡ numbers
unfolding less_node
less_long x y p q = sub_length x.n y.n (p.long ∙ sym q.long) ∙ p.long
