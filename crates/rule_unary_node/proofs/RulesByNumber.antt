-- The rules by number: what an entry's words mean, that it lasts, and what each rule does with a leaf and a branch.
use mathlib.Core.Path.{◌≡◌, refl, sym, ap, ◌∙◌, subst}
use mathlib.Core.Bool.{Bool, true, false}
use mathlib.Core.List.{List}
use Prim.Native.Nat.{ℕ, ◌≤◌, ◌<◌, Ordering}
use native.Mathlib.Omega.{arith}
use borrow.Author.Tests.{eq-eqb, eqb-true, eqb-false}
use lib.Dec.{eqb, T, compare_is_eq}
use lib.IntN.{ℤ}
use Rattle.whole.specs.Cases.{if}
use Rattle.theory.specs.Diagram.{Test, now, later, linear, Leaf, Tree, leaf, branch, cmp}
use Rattle.theory.specs.Computation.{Comp, ret, both}
use Rattle.theory.specs.Rules.{node, over, scale, shift, complement, number, is_later, side}
use Rattle.theory.proofs.laws.Comps.{cmp_eq, cmp_refl}
use Rattle.rule_node.specs.Nodes.{tree_at}
use Rattle.rule_node.specs.Table.{Bare, Lasting}
use Rattle.table_cache.specs.Cache.{Key}
use Rattle.rule_node.specs.EntryMeaning.{rule_by, rule_of}
use Rattle.rule_node.proofs.Trees.{trees_kept}
use Rattle.rule_node.proofs.RuleSteps.{index_small}
use Rattle.rule_unary_node.specs.Acts.{act_of, Acts}

no : {A : Type 0} → true ≡ false → A
no e = absurd (let z : ◌≡◌ {A = ℕ} 0 1 = cc in omega arith)

-- ---- by the rule's number

by_is : {op : ℕ} (P : ℕ → Type 0) (k : ℕ) → P k → ((op ≡ k → ⊥) → P op) → P op
by_is {op} P k a f = go (eqb op k) refl
  where
    go : (b : Bool) → eqb op k ≡ b → P op
    go true e = subst P (sym (eqb-true op k e)) a
    go false e = f (eqb-false op k e)

pub by_op : (P : ℕ → Type 0) → P 3 → P 4 → P 5 → P 6 → P 7 → P 8 → {op : ℕ} → 3 ≤ op → op ≤ 8 → P op
by_op P p₃ p₄ p₅ p₆ p₇ p₈ {op} lo hi =
    by_is P 3 p₃ (λ n₃. by_is P 4 p₄ (λ n₄. by_is P 5 p₅ (λ n₅. by_is P 6 p₆ (λ n₆. by_is P 7 p₇ (λ n₇. by_is P 8 p₈ (λ n₈. absurd (omega arith)))))))

-- what the words mean
pub rule_is : (l : List ℤ) (n f g p q : ℕ) {op : ℕ} → 3 ≤ op → op ≤ 8 → rule_of l n op f g p q ≡ act_of op p q (tree_at l n f)
unfolding rule_of rule_by act_of
rule_is l n f g p q lo hi = by_op (λ (op : ℕ). rule_of l n op f g p q ≡ act_of op p q (tree_at l n f)) refl refl refl refl refl refl lo hi

module _ {op p q : ℕ} (A : Acts op p q) where
  pub rule_as : (l : List ℤ) (n f : ℕ) → rule_of l n op f 0 p q ≡ act_of op p q (tree_at l n f)
  rule_as l n f = rule_is l n f 0 p q A.from A.to

  -- it lasts
  pub act_lasts : (l : List ℤ) (n f : ℕ) → f < n → Lasting rule_of l n op f 0 p q
  act_lasts l n f h l' n' D = rule_as l' n' f ∙ (ap (act_of op p q) (trees_kept D f h) ∙ sym (rule_as l n f))

  -- the words fit an entry
  pub act_key : {cap : ℕ} {l : List ℤ} {w : List ℕ} {n : ℕ} → Bare cap l w n → (f : ℕ) → f < n → Key op f 0 p q
  act_key B f h = let a = index_small f B h in let b = A.to in record { op_fits = omega arith; f_fits = omega arith; g_fits = omega arith; p_fits = A.low; q_fits = A.high }

-- ---- a branch

-- a test is the condition that a side picks by where their order is "equal"
later_is : (k : ℕ) → is_later k (later k) ≡ true
unfolding is_later
later_is k = eq-eqb k k refl

pub is_condition : (k : ℕ) (t : Test) → cmp t (later k) ≡ Ordering.eq → is_later k t ≡ true
is_condition k t e = ap (is_later k) (cmp_eq t (later k) (subst (λ (o : Ordering). T (compare_is_eq o)) (sym e) tt)) ∙ later_is k

same_condition : (k : ℕ) (t : Test) → is_later k t ≡ true → t ≡ later k
unfolding is_later
same_condition k (now j) e = no (sym e)
same_condition k (later j) e = ap later (eqb-true j k e)
same_condition k (linear p) e = no (sym e)

pub not_condition : (k : ℕ) (t : Test) → (cmp t (later k) ≡ Ordering.eq → ⊥) → is_later k t ≡ false
not_condition k t n = go (is_later k t) refl
  where
    go : (b : Bool) → is_later k t ≡ b → is_later k t ≡ false
    go true e = absurd (n (ap (λ (u : Test). cmp u (later k)) (same_condition k t e) ∙ cmp_refl (later k)))
    go false e = e

module _ (p q : ℕ) (t : Test) (h l : Tree) where
  side_on : (b : Bool) → is_later p t ≡ false → side b p (branch t h l) ≡ both (node t) (side b p h) (side b p l)
  unfolding side
  side_on b e = ap (λ (z : Bool). elim z as (λ _. Comp Tree) [ true ↦ if b (side b p h) (side b p l) | false ↦ both (node t) (side b p h) (side b p l) ]) e

  side_picks : (b : Bool) → is_later p t ≡ true → side b p (branch t h l) ≡ if b (side b p h) (side b p l)
  unfolding side
  side_picks b e = ap (λ (z : Bool). elim z as (λ _. Comp Tree) [ true ↦ if b (side b p h) (side b p l) | false ↦ both (node t) (side b p h) (side b p l) ]) e

  pub act_on : {op : ℕ} → 3 ≤ op → op ≤ 8 → (7 ≤ op → is_later p t ≡ false) → act_of op p q (branch t h l) ≡ both (node t) (act_of op p q h) (act_of op p q l)
  unfolding act_of scale shift complement number over
  act_on = by_op (λ (op : ℕ). (7 ≤ op → is_later p t ≡ false) → act_of op p q (branch t h l) ≡ both (node t) (act_of op p q h) (act_of op p q l))
      (λ _. refl) (λ _. refl) (λ _. refl) (λ _. refl) (λ e. side_on true (e (omega arith))) (λ e. side_on false (e (omega arith)))

  pub yes_picks : is_later p t ≡ true → {op : ℕ} → op ≡ 7 → act_of op p q (branch t h l) ≡ act_of op p q h
  unfolding act_of
  yes_picks e d = subst (λ (op : ℕ). act_of op p q (branch t h l) ≡ act_of op p q h) (sym d) (side_picks true e)

  pub no_picks : is_later p t ≡ true → {op : ℕ} → op ≡ 8 → act_of op p q (branch t h l) ≡ act_of op p q l
  unfolding act_of
  no_picks e d = subst (λ (op : ℕ). act_of op p q (branch t h l) ≡ act_of op p q l) (sym d) (side_picks false e)

-- ---- a leaf

pub side_leaf : (p q : ℕ) (y : Leaf) {op : ℕ} → 7 ≤ op → op ≤ 8 → act_of op p q (leaf y) ≡ ret (leaf y)
unfolding act_of side
side_leaf p q y {op} lo hi = by_op (λ (op : ℕ). 7 ≤ op → act_of op p q (leaf y) ≡ ret (leaf y)) (λ h. absurd (omega arith)) (λ h. absurd (omega arith))
    (λ h. absurd (omega arith)) (λ h. absurd (omega arith)) (λ _. refl) (λ _. refl) (omega arith) hi lo
