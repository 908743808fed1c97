-- The test that a command gives, as a node's words.
use mathlib.Core.Path.{◌≡◌, refl, sym, ap, ◌∙◌, subst}
use mathlib.Core.List.{List}
use Prim.Native.Nat.{ℕ, ◌+◌, ◌-◌, ◌≤◌, ◌<◌}
use native.Mathlib.Omega.{arith}
use lib.Dec.{leb, leb→le, nleb→lt}
use lib.IntN.{ℤ}
use Rattle.whole.specs.Cases.{if, by_test}
use Rattle.whole.specs.Linears.{Smalls, divisor_list}
use Rattle.whole.specs.LinearsLaws.{quot_smalls}
use Rattle.table.proofs.Leaf.{leaf_as}
use Rattle.table.specs.declared.Node.{Node}
use Rattle.theory.specs.Widths.{conditions_most}
use Rattle.theory.specs.Diagram.{Linear, Test, now, later, quot_list, test_of}
use Rattle.theory.specs.Command.{push_condition, push_test, whole, read_at, linear_at}
use Rattle.theory.specs.Load.{condition_test}
use Rattle.theory.specs.Form.{new_form}
use lib.ListN.{length}
use Rattle.model_command.proofs.Forward.{has_linear, linear_room}
use Rattle.model_command.specs.declared.Command.{Command as CodeCommand}
use Rattle.model_command.specs.declared.Command.TheVariants.{Site, Leaf, Condition, Test as TestBy, Forbidden, Give, Name, End}
use Rattle.model_command.specs.CursorReadings.{CodeRead}
use Rattle.model_command.specs.declared.CommandError.TheVariants.{Unknown, Short}
use Rattle.std.specs.Prelude.{Ok, Err}
use Rattle.model_command.specs.CursorReadings.{with_linear, linear_of, command_of_in, command_of, read_of_in, read_of}
use Rattle.rule_node.specs.Nodes.{linear_held, condition_of, Nums}
use Rattle.rule_node.specs.Roots.{condition_node, linear_node, named_node, Stood}
use Rattle.rule_node.proofs.Trees.{later_is, now_is}
use Rattle.rule_node.proofs.Meanings.{stood_condition, proper_linear, divided_test, named_leaf}
use Rattle.load_choose.specs.CommandTest.{leaf_words, condition_in, condition_read, test_in, test_read, test_at, Testing}

-- ---- a condition

condition_same : (k : ℕ) → condition_of k ≡ condition_test k
unfolding condition_test
condition_same k = by_test (leb k conditions_most) (λ b. condition_of k ≡ if b (now k) (later (k - conditions_most)))
    (λ t. now_is k (leb→le k conditions_most t)) (λ t. later_is k (nleb→lt k conditions_most t))

pub condition_stood : {x : Node} (k : ℕ) → (0 < k) × (k ≤ conditions_most + conditions_most) → x ≡ condition_node k → Stood (condition_test k) x
condition_stood k h e = subst (Stood (condition_test k)) (sym e) (subst (λ (t : Test). Stood t (condition_node k)) (condition_same k) (stood_condition k h.0 h.1))

-- ---- a linear

pub words_nums : (p : List ℤ) → Smalls p → Nums (leaf_words p)
unfolding leaf_words
words_nums p s = s

linear_same : (p : List ℤ) → linear_held (leaf_words p) ≡ linear_of p
unfolding linear_held leaf_words
linear_same p = refl

named_words : (p : List ℤ) → named_node (leaf_words p) ≡ linear_node (quot_list (divisor_list (leaf_words p).n) (leaf_words p).n)
unfolding leaf_words
named_words p = named_leaf (leaf_words p) (leaf_as refl)

pub linear_stood : (p : List ℤ) {x r : Node} → x ≡ leaf_words p → r ≡ named_node x → Nums (leaf_words p) → Stood (test_of (linear_of p)) r
linear_stood p {x} {r} e f s = subst (Stood (test_of (linear_of p))) (sym (f ∙ (ap named_node e ∙ named_words p)))
    (record { proper = proper_linear _ (quot_smalls _ _ s); test = divided_test (leaf_words p) s.long ∙ ap test_of (linear_same p) })

-- ---- by what the code reads

not_whole : (B : List ℕ) (at : ℕ) (q : CodeRead) → ((c : CodeCommand) → q ≡ Ok c → ⊥) → test_read (read_of B at q) ≡ condition_test 1
unfolding test_read read_of_in
not_whole B at (Ok c) k = absurd (k c refl)
not_whole B at (Err Unknown) k = refl
not_whole B at (Err Short) k = refl

other_test : (B : List ℕ) (at : ℕ) (d : CodeCommand) → ((i : ℕ) → d ≡ Condition i → ⊥) → (d ≡ TestBy → ⊥) → test_read (whole (command_of B at d)) ≡ condition_test 1
unfolding test_read test_in command_of_in
other_test B at (Site m n a w) k l = refl
other_test B at Leaf k l = refl
other_test B at (Condition i) k l = absurd (k i refl)
other_test B at TestBy k l = absurd (l refl)
other_test B at Forbidden k l = refl
other_test B at (Give x a j) k l = refl
other_test B at (Name a) k l = refl
other_test B at End k l = refl

module _ (B : List ℕ) (at : ℕ) (r : CodeRead) (e : read_of B at r ≡ read_at B at) where
  pub whole_is : {c : CodeCommand} → r ≡ Ok c → whole (command_of B at c) ≡ read_at B at
  unfolding read_of_in
  whole_is f = ap (read_of B at) (sym f) ∙ e

  -- nothing whole is there
  pub none_stood : ((c : CodeCommand) → r ≡ Ok c → ⊥) → {x : Node} → Stood (condition_test 1) x → Stood (test_at B at) x
  none_stood k {x} s = subst (λ (t : Test). Stood t x) (sym (not_whole B at r k) ∙ ap test_read e) s

  module _ {c : CodeCommand} (f : r ≡ Ok c) where
    -- a command of no test
    pub other_stood : ((i : ℕ) → c ≡ Condition i → ⊥) → (c ≡ TestBy → ⊥) → {x : Node} → Stood (condition_test 1) x → Stood (test_at B at) x
    other_stood k l {x} s = subst (λ (t : Test). Stood t x) (sym (other_test B at c k l) ∙ ap test_read (whole_is f)) s

    -- a condition
    condition_is : {k : ℕ} → c ≡ Condition k → whole (push_condition k) ≡ read_at B at
    unfolding command_of_in
    condition_is g = ap (λ (d : CodeCommand). whole (command_of B at d)) (sym g) ∙ whole_is f

    pub condition_fits : {k : ℕ} → c ≡ Condition k → Testing B at → (0 < k) × (k ≤ conditions_most + conditions_most)
    unfolding condition_read condition_in
    condition_fits {k} g N = let z : k ≡ condition_read (read_at B at) = ap condition_read (condition_is g) in
        (let a = N.least in omega (arith, z), let b = N.most in omega (arith, z))

    pub condition_test_stood : {k : ℕ} → c ≡ Condition k → Testing B at → {x : Node} → x ≡ condition_node k → Stood (test_at B at) x
    unfolding test_read test_in
    condition_test_stood {k} g N {x} q = subst (λ (t : Test). Stood t x) (ap test_read (condition_is g)) (condition_stood k (condition_fits g N) q)

    -- a linear
    linear_is : c ≡ TestBy → whole (push_test (linear_at B (at + 1))) ≡ read_at B at
    unfolding command_of_in
    linear_is g = ap (λ (d : CodeCommand). whole (command_of B at d)) (sym g) ∙ whole_is f

    pub linear_there : c ≡ TestBy → at + with_linear ≤ length B
    unfolding has_linear
    linear_there g = linear_room new_form B at (push_test (linear_at B (at + 1))) tt (linear_is g)

    module _ {p : List ℤ} (g : c ≡ TestBy) (q : Smalls p × (linear_of p ≡ linear_at B (at + 1))) where
      linear_read : whole (push_test (linear_of p)) ≡ read_at B at
      linear_read = ap (λ (z : Linear). whole (push_test z)) q.1 ∙ linear_is g

      pub linear_nums : Nums (leaf_words p)
      linear_nums = words_nums p q.0

      pub linear_test_stood : {x y : Node} → y ≡ leaf_words p → x ≡ named_node y → Stood (test_at B at) x
      unfolding test_read test_in
      linear_test_stood {x} a b = subst (λ (t : Test). Stood t x) (ap test_read linear_read) (linear_stood p a b linear_nums)
