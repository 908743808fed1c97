-- What a rule goes on with at a node of the table.
use mathlib.Core.Path.{◌≡◌, refl, sym, ap, ◌∙◌, subst}
use mathlib.Core.Bool.{Bool, true, false}
use mathlib.Core.List.{List}
use mathlib.Core.Logic.{inl}
use Prim.Native.Nat.{ℕ, ◌≤◌, ◌<◌}
use native.Mathlib.Omega.{arith}
use borrow.Author.Tests.{eqb-true, eqb-false, ne_eqb, lt-ltb, le-ltb, ltb-false}
use lib.Dec.{ltb, eqb}
use lib.IntN.{ℤ}
use Rattle.whole.specs.Cases.{if}
use Rattle.table.specs.Table.{node_at, is_leaf}
use Rattle.table.specs.declared.Node.{Node}
use Rattle.theory.specs.Diagram.{later, Tree, cmp}
use Rattle.theory.specs.Computation.{Comp}
use Rattle.theory.specs.Rules.{node, is_later}
use Rattle.rule_node.specs.Codes.{yes_side_code}
use Rattle.rule_node.specs.Nodes.{test_held, tree_at, Tested, Good}
use Rattle.rule_node.specs.EntryMeaning.{test_by}
use Rattle.rule_node.specs.Roots.{down_of, ord_num, order_of, later_node}
use Rattle.rule_node.specs.declared.Down.{Down}
use Rattle.rule_node.specs.declared.Sides.{Sides}
use Rattle.rule_node.proofs.Trees.{at_branch}
use Rattle.rule_tests.proofs.Ordered.{order_is}
use Rattle.rule_node.proofs.Meanings.{test_later, test_proper, test_is}
use Rattle.rule_tests.proofs.Comparisons.{num_eq}
use Rattle.rule_node.proofs.TwoOperands.{On}
use Rattle.rule_unary_node.specs.declared.Way.{Way}
use Rattle.rule_unary_node.specs.declared.Way.TheVariants.{End, Pick, Both}
use Rattle.rule_unary_node.specs.Acts.{act_of, Acts, way_by, way_of}
use Rattle.rule_unary_node.proofs.RulesByNumber.{is_condition, not_condition, act_on, yes_picks, no_picks}

-- the rule m goes on with the branch i
pub record Picked (l : List ℤ) (n : ℕ) (m : Tree → Comp Tree) (f i : ℕ) : Type 0 where
  pub high : i < f
  pub is : m (tree_at l n f) ≡ m (tree_at l n i)

-- as sides of a rule whose second operand plays no part
abbrev pub sides_by : ℕ → ℕ → ℕ → Sides
sides_by high low f = record { ends = false; root = f; fh = high; gh = 0; fl = low; gl = 0 }

abbrev pub alone : (Tree → Comp Tree) → Tree → Tree → Comp Tree
alone m F G = m F

abbrev pub Passes : List ℤ → ℕ → (Tree → Comp Tree) → ℕ → Way → Type 0
Passes l n m f End = is_leaf (node_at l f).kind ≡ true
Passes l n m f (Pick i) = Picked l n m f i
Passes l n m f (Both high low) = On l n (alone m) node f 0 (sides_by high low f)

module _ {l : List ℤ} {n : ℕ} (G : Good l n) {op p q : ℕ} (A : Acts op p q) (f : ℕ) (hf : f < n) where
  abbrev x : Node
  x = node_at l f

  abbrev d : Down
  d = down_of x

  abbrev m : Tree → Comp Tree
  m = act_of op p q

  abbrev o : ℕ
  o = if (ltb op 7) 0 (ord_num (order_of x (later_node p)))

  -- the condition's words
  words : 7 ≤ op → Tested (later_node p)
  words h = (test_proper {l = l} {n = n} {op = 10} {p = p} G (inl (refl, A.some h, A.picks h)) (test_later l 10 p refl refl)).tested

  is_words : 7 ≤ op → test_held (later_node p) ≡ later p
  unfolding test_by
  is_words h = test_is {l = l} {n = n} {op = 10} {p = p} G (inl (refl, A.some h, A.picks h)) (test_later l 10 p refl refl)

  order_as : 7 ≤ op → is_leaf x.kind ≡ false → order_of x (later_node p) ≡ cmp (test_held x) (later p)
  order_as h e = order_is x (later_node p) ((G.valid f hf).tested e) (words h) ∙ ap (cmp (test_held x)) (is_words h)

  o_side : 7 ≤ op → o ≡ ord_num (order_of x (later_node p))
  o_side h = ap (λ (b : Bool). if b 0 (ord_num (order_of x (later_node p)))) (le-ltb op 7 h)

  o_other : op < 7 → o ≡ 0
  o_other h = ap (λ (b : Bool). if b 0 (ord_num (order_of x (later_node p)))) (lt-ltb op 7 h)

  o_one : o ≡ 1 → 7 ≤ op
  o_one e = go (ltb op 7) refl
    where
      go : (b : Bool) → ltb op 7 ≡ b → 7 ≤ op
      go true t = absurd (let z = ap (λ (b : Bool). if b 0 (ord_num (order_of x (later_node p)))) t in omega arith)
      go false t = ltb-false op 7 t

  later_yes : o ≡ 1 → is_leaf x.kind ≡ false → is_later p (test_held x) ≡ true
  later_yes e k = is_condition p (test_held x) (sym (order_as (o_one e) k) ∙ num_eq (order_of x (later_node p)) (o_side (o_one e)) e)

  later_no : (o ≡ 1 → ⊥) → is_leaf x.kind ≡ false → 7 ≤ op → is_later p (test_held x) ≡ false
  unfolding ord_num
  later_no n k h = not_condition p (test_held x) (λ e. n (o_side h ∙ ap ord_num (order_as h k ∙ e)))

  on : d.ends ≡ false → (o ≡ 1 → ⊥) → On l n (alone m) node f 0 (sides_by d.high d.low f)
  unfolding down_of
  on e t =
      let a = (G.valid f hf).high_below e in let b = (G.valid f hf).low_below e in
      record {
        fh = omega arith;
        gh = omega arith;
        fl = omega arith;
        gl = omega arith;
        root = hf;
        high = omega arith;
        low = omega arith;
        test = e;
        is = ap m (at_branch G f hf e) ∙ act_on p q (test_held x) _ _ A.from A.to (later_no t e);
      }

  yes_side : d.ends ≡ false → o ≡ 1 → op ≡ 7 → Picked l n m f d.high
  unfolding down_of
  yes_side e t k = record { high = (G.valid f hf).high_below e; is = ap m (at_branch G f hf e) ∙ yes_picks p q (test_held x) _ _ (later_yes t e) k }

  no_side : d.ends ≡ false → o ≡ 1 → op ≡ 8 → Picked l n m f d.low
  unfolding down_of
  no_side e t k = record { high = (G.valid f hf).low_below e; is = ap m (at_branch G f hf e) ∙ no_picks p q (test_held x) _ _ (later_yes t e) k }

  ends : d.ends ≡ true → is_leaf x.kind ≡ true
  unfolding down_of
  ends e = e

  all : (a b c : Bool) → d.ends ≡ a → eqb o 1 ≡ b → eqb op 7 ≡ c → Passes l n m f (if a End (if b (Pick (if c d.high d.low)) (Both d.high d.low)))
  all true b c e t k = ends e
  all false true true e t k = yes_side e (eqb-true o 1 t) (eqb-true op 7 k)
  all false true false e t k = no_side e (eqb-true o 1 t) (let a = o_one (eqb-true o 1 t) in let b = A.to in let c = eqb-false op 7 k in omega arith)
  all false false c e t k = on e (eqb-false o 1 t)

  pub passes : Passes l n m f (way_of op p x)
  unfolding way_of way_by
  passes = all d.ends (eqb o 1) (eqb op 7) refl refl refl

-- with the way that the code has
pub passes_as : {l : List ℤ} {n : ℕ} (G : Good l n) {op p q : ℕ} (A : Acts op p q) (f : ℕ) → f < n → {w : Way} → w ≡ way_of op p (node_at l f) → Passes l n (act_of op p q) f w
passes_as {l} {n} G {op} {p} {q} A f h e = subst (Passes l n (act_of op p q) f) (sym e) (passes G A f h)

-- ---- what the code reads is that way

pub way_as : (d : Down) (op o : ℕ) (a b c : Bool) → d.ends ≡ a → eqb o 1 ≡ b → eqb op 7 ≡ c → if a End (if b (Pick (if c d.high d.low)) (Both d.high d.low)) ≡ way_by d op o
unfolding way_by
way_as d op o a b c e₀ e₁ e₂ = λ i. if (sym e₀ i) End (if (sym e₁ i) (Pick (if (sym e₂ i) d.high d.low)) (Both d.high d.low))

module _ (x : Node) {d : Down} {r : Way} (op p : ℕ) (ed : d ≡ down_of x) where
  pub way_other : r ≡ way_by d op 0 → op < 7 → r ≡ way_of op p x
  unfolding way_of
  way_other er h = er ∙ (ap (λ (d : Down). way_by d op 0) ed ∙ ap (λ (b : Bool). way_by (down_of x) op (if b 0 (ord_num (order_of x (later_node p))))) (sym (lt-ltb op 7 h)))

  pub way_side : {z : Node} {o : ℕ} → z ≡ later_node p → o ≡ ord_num (order_of x z) → r ≡ way_by d op o → 7 ≤ op → r ≡ way_of op p x
  unfolding way_of
  way_side ez eo er h =
      er ∙ (ap (λ (k : ℕ). way_by d op k) (eo ∙ ap (λ (z : Node). ord_num (order_of x z)) ez)
      ∙ (ap (λ (d : Down). way_by d op (ord_num (order_of x (later_node p)))) ed
      ∙ ap (λ (b : Bool). way_by (down_of x) op (if b 0 (ord_num (order_of x (later_node p))))) (sym (le-ltb op 7 h))))

-- what an order's number says is whether it is 1
pub way_apart : (d : Down) (op o : ℕ) → (o ≡ 1 → ⊥) → way_by d op 0 ≡ way_by d op o
unfolding way_by
way_apart d op o a = λ i. if d.ends End (if (sym (ne_eqb o 1 a) i) (Pick (if (eqb op yes_side_code) d.high d.low)) (Both d.high d.low))
