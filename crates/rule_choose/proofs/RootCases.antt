-- What the code's comparisons of two roots say of the sides that follow.
use mathlib.Core.Path.{◌≡◌, refl, sym, ap, ap₂, ◌∙◌}
use mathlib.Core.Bool.{Bool, true, false}
use borrow.Author.Tests.{eq-eqb, ne_eqb}
use mathlib.Core.List.{List}
use Prim.Native.Nat.{ℕ, ◌+◌, ◌*◌, ◌<◌, ◌^◌}
use native.Mathlib.Omega.{arith}
use lib.Dec.{eqb}
use lib.IntN.{ℤ, pos}
use lib.ListN.{length, get_or, take, drop}
use lib.Seq.{take_all}
use lib.Signed.{mag}
use Rattle.whole.specs.Linears.{numbers}
use Rattle.theory.specs.Diagram.{then, cmp_ℤ, cmp_list}
use Rattle.table.specs.Table.{node_words, node_at, is_leaf}
use Rattle.table.proofs.Words.{R, back}
use mathlib.Core.Logic.{⊎_elim}
use Rattle.rule_node.specs.Codes.{choose_later_code}
use Rattle.rule_node.specs.Nodes.{Root}
use Rattle.rule_node.specs.EntryMeaning.{NamesTest}
use Rattle.rule_node.proofs.Meanings.{test_named, named_branch_as}
use Rattle.whole.specs.Cases.{if}
use Rattle.table.specs.declared.Node.{Node}
use Rattle.rule_node.specs.declared.Down.{Down}
use Rattle.rule_node.specs.declared.Sides.{Sides}
use Rattle.rule_node.specs.Roots.{ord_num, order_of, test_node, down_of, left_sides, right_sides, both_sides}
use Rattle.rule_choose.specs.Choice.{end_sides, split_of, pick_low, pick_of, sides_of, test_words, choice_of}

pub sides_as : (x y : Node) (f g : ℕ) {p q : Down} {r : Sides} → p ≡ down_of x → q ≡ down_of y → r ≡ split_of p f q g (ord_num (order_of x y)) → r ≡ sides_of x f y g
unfolding sides_of
sides_as x y f g ep eq er = cc

-- a choice's sides by the comparisons that its cases depend on, the test being passed on as z'
module _ (z x y : Node) (f g : ℕ) {p q : Down} {r : Sides} (ep : p ≡ down_of x) (eq : q ≡ down_of y) {z' : Node} (ez : z' ≡ z) where
  choice_as : r ≡ pick_of p f q g (ord_num (order_of z x)) (ord_num (order_of z' y)) (ord_num (order_of x y)) → r ≡ choice_of z x f y g
  unfolding choice_of
  choice_as er = cc

  -- the high operand ends
  pub choice_high_ends : p.ends ≡ true → r ≡ pick_low f f q g (ord_num (order_of z' y)) → r ≡ choice_of z x f y g
  unfolding pick_of
  choice_high_ends e er = choice_as (simp e er)

  -- it does not, and a is the order of the test and its root
  module _ (a : ℕ) (e : p.ends ≡ false) (ea : a ≡ ord_num (order_of z x)) where
    pub choice_after : a ≡ 2 → r ≡ split_of p f q g (ord_num (order_of x y)) → r ≡ choice_of z x f y g
    unfolding pick_of
    choice_after t er = choice_as (simp (e, ← ea, eq-eqb _ _ t) er)

    pub choice_equal : (a ≡ 2 → ⊥) → a ≡ 1 → r ≡ pick_low p.high f q g (ord_num (order_of z' y)) → r ≡ choice_of z x f y g
    unfolding pick_of
    choice_equal n t er = choice_as (simp (e, ← ea, ne_eqb _ _ n, eq-eqb _ _ t) er)

    pub choice_before : (a ≡ 2 → ⊥) → (a ≡ 1 → ⊥) → r ≡ pick_low f f q g (ord_num (order_of z' y)) → r ≡ choice_of z x f y g
    unfolding pick_of
    choice_before n m er = choice_as (simp (e, ← ea, ne_eqb _ _ n, ne_eqb _ _ m) er)

-- ---- a test by its words

module _ (k : ℤ) (n : List ℤ) (fk : mag k < 2 ^ 63) where
  pub words_back : test_words (R k) n ≡ test_words k n
  words_back = ap (λ (k : ℤ). test_words k n) (back k fk)

  pub order_words_as : (y : Node) {o : ℕ} → o ≡ ord_num (then (cmp_ℤ (R k) y.kind) (cmp_list n y.n)) → o ≡ ord_num (order_of (test_words k n) y)
  unfolding order_of
  order_words_as y e = e ∙ ap (λ (z : Node). ord_num (order_of z y)) words_back

-- the test of a choice stands in the table, as node p's root
abbrev pub Stands : List ℤ → ℕ → ℕ → Type 0
Stands l op p = (op ≡ choose_later_code → ⊥) × (is_leaf (node_at l p).kind ≡ false)

pub stands_test : (l : List ℤ) (op p : ℕ) → Stands l op p → node_at l p ≡ test_node l op p
stands_test l op p S = test_named l op p S.0 refl (named_branch_as (node_at l p) S.1)

pub stands_root : {l : List ℤ} {n : ℕ} (op : ℕ) {p : ℕ} → NamesTest n op p → Stands l op p → Root l n p
stands_root op N S = record { below = ⊎_elim (λ e. absurd (S.0 e.0)) (λ e. e.1) N; branches = S.1 }

-- a test whose numbers are lent whole, one that was read, and a root's where it stands
module _ (x y : Node) (f g : ℕ) {r : Sides} where
  pub choice_lent : (z : Node) → length z.n ≡ numbers → mag z.kind < 2 ^ 63 → r ≡ choice_of (test_words (R z.kind) (take numbers z.n)) x f y g → r ≡ choice_of z x f y g
  unfolding choice_of order_of
  choice_lent z h fz e = e ∙ ap₂ (λ (k : ℤ) (n : List ℤ). choice_of (test_words k n) x f y g) (back z.kind fz) (take_all numbers z.n (omega arith))

  pub choice_told : {z z' : Node} → z ≡ z' → r ≡ choice_of z x f y g → r ≡ choice_of z' x f y g
  choice_told e d = d ∙ ap (λ (z : Node). choice_of z x f y g) e

  pub choice_stands : (l : List ℤ) (op p : ℕ) → Stands l op p → mag (get_or l (p * node_words) (pos 0)) < 2 ^ 63
      → r ≡ choice_of (test_words (R (get_or l (p * node_words) (pos 0))) (take numbers (drop (p * node_words + 1) l))) x f y g → r ≡ choice_of (test_node l op p) x f y g
  unfolding choice_of order_of node_at
  choice_stands l op p S fk e =
      e ∙ (ap (λ (k : ℤ). choice_of (test_words k (take numbers (drop (p * node_words + 1) l))) x f y g) (back (get_or l (p * node_words) (pos 0)) fk)
      ∙ ap (λ (z : Node). choice_of z x f y g) (stands_test l op p S))

-- where an operand ends, the order o does not count
module _ (x : Down) (f : ℕ) (y : Down) (g o : ℕ) where
  pub split_high_ends : x.ends ≡ true → split_of x f y g 0 ≡ split_of x f y g o
  unfolding split_of
  split_high_ends e = simp e refl

  pub split_low_ends : y.ends ≡ true → split_of x f y g 0 ≡ split_of x f y g o
  unfolding split_of
  split_low_ends e = simp e refl

pub pick_low_ends : (f : ℕ) (y : Down) (g o p : ℕ) → y.ends ≡ true → pick_low p f y g 0 ≡ pick_low p f y g o
unfolding pick_low
pick_low_ends f y g o p e = simp e refl

abbrev pub split_by : Bool → Bool → Bool → Bool → Down → ℕ → Down → ℕ → Sides
split_by a b c d x f y g = if a (if b (end_sides f g g) (right_sides f y g)) (if b (left_sides x f g) (if c (left_sides x f g) (if d (both_sides x f y) (right_sides f y g))))

pub split_as : (x : Down) (f : ℕ) (y : Down) (g o : ℕ) (a b c d : Bool) → x.ends ≡ a → y.ends ≡ b → eqb o 0 ≡ c → eqb o 1 ≡ d → split_by a b c d x f y g ≡ split_of x f y g o
unfolding split_of
split_as x f y g o a b c d e₁ e₂ e₃ e₄ = λ i. split_by (sym e₁ i) (sym e₂ i) (sym e₃ i) (sym e₄ i) x f y g

-- what an order's number says is whether it is 0 and whether it is 1
pub split_above : (x : Down) (f : ℕ) (y : Down) (g o : ℕ) → (o ≡ 0 → ⊥) → (o ≡ 1 → ⊥) → split_of x f y g 2 ≡ split_of x f y g o
unfolding split_of
split_above x f y g o a b = λ i. split_by x.ends y.ends (sym (ne_eqb o 0 a) i) (sym (ne_eqb o 1 b) i) x f y g

-- whether it is 2 and whether it is 1
pub pick_low_before : (p f : ℕ) (y : Down) (g b : ℕ) → (b ≡ 2 → ⊥) → (b ≡ 1 → ⊥) → pick_low p f y g 0 ≡ pick_low p f y g b
unfolding pick_low
pick_low_before p f y g b u v = λ i. if y.ends (end_sides p g g) (if (sym (ne_eqb b 2 u) i) (right_sides f y g) (if (sym (ne_eqb b 1 v) i) (end_sides p g y.low) (end_sides p g g)))
