-- A command's work on the table and the stack, put together.
use mathlib.Core.Path.{◌≡◌, refl, sym, ap, ap₂, ◌∙◌, subst}
use Rattle.table.specs.Table.{Answer, stop_of, at_of, count_of}
use mathlib.Core.Bool.{Bool}
use mathlib.Core.List.{List, [], ◌∷◌}
use Prim.Native.Nat.{ℕ, suc, ◌+◌, ◌-◌, ◌≤◌, ◌<◌}
use native.Mathlib.Omega.{arith}
use native.Mathlib.Nat.{lt_of_lt_of_le}
use borrow.Author.Tests.{lt-ltb}
use lib.IntN.{ℤ}
use lib.ListN.{length, get_or, drop}
use Rattle.whole.specs.Cases.{if}
use Rattle.table.proofs.Leaf.{leaf_as, some_as, leaf_not, some_not}
use Rattle.table.specs.declared.Node.{Node}
use Rattle.whole.specs.Linears.{Smalls}
use Rattle.theory.specs.Widths.{stack_most, conditions_most}
use Rattle.theory.specs.Form.{new_form}
use Rattle.theory.specs.Diagram.{Linear, Test, Tree, leaf, plain, test_of}
use Rattle.theory.specs.Computation.{Comp, ret, bind, make, Out, done, stopped, run}
use Rattle.theory.specs.Rules.{choose, none_leaf}
use Rattle.theory.specs.Command.{Command, site, push_leaf, push_condition, push_test, push_forbidden, name_action, end_model, whole, read_at, give, Slot}
use Rattle.theory.specs.Load.{Entry, Loaded as Loading, condition_test, load_choice, load_choice_with, load_entry, load_one, load_one_with}
use Rattle.theory.proofs.laws.Comps.{after, run_bind}
use Rattle.model_command.proofs.Forward.{has_linear, linear_room}
use Rattle.model_command.specs.declared.Command.{Command as CodeCommand}
use Rattle.model_command.specs.declared.Command.TheVariants.{Site, Leaf, Condition, Test as TestBy, Forbidden, Give, Name, End}
use Rattle.model_stack.specs.Held.{held, pushed}
use Rattle.model_command.specs.CursorReadings.{with_linear, linear_of, command_of_in, command_of}
use Rattle.rule_node.specs.Nodes.{linear_held, tree_of, trees, tree_at, Nums, Valid, Grown}
use Rattle.rule_node.specs.Table.{EntryRule, Bare, Table, RuleRan, Grew}
use Rattle.rule_node.proofs.Trees.{trees_kept, grown_not, tree_leaf, leaf_some}
use Rattle.rule_node.proofs.Outcomes.{out_ok, out_no, grown, ran_as, grew_as, lifted}
use Rattle.rule_node.proofs.RuleSteps.{index_small}
use Rattle.load_choose.proofs.Tests.{words_nums}
use Rattle.load_choose.specs.CommandTest.{leaf_words, condition_in, condition_read, test_in, test_read, test_at, Testing, load_rule}
use Rattle.load_command.specs.declared.Loaded.{Loaded}
use Rattle.load_command.specs.CommandStep.{standing, NumbersBelow, PutMade, GrownOn, ChosenOn, Popped, Able, height, given_to, entered, StepReady, loading, Stepped}

-- ---- numbers on the stack

below_more : {n n' : ℕ} → n ≤ n' → (K : List ℕ) → NumbersBelow n K → NumbersBelow n' K
unfolding NumbersBelow
below_more h [] b = b
below_more h (i ∷ K) b = (lt_of_lt_of_le b.0 h, below_more h K b.1)

-- they stand for the same diagrams as the table grows
standing_kept : {l l' : List ℤ} {n n' : ℕ} → Grown l n l' n' → (K : List ℕ) → NumbersBelow n K → standing l' n' K ≡ standing l n K
unfolding NumbersBelow
standing_kept G [] b = refl
standing_kept G (i ∷ K) b = ap₂ ◌∷◌ (trees_kept G i b.0) (standing_kept G K b.1)

below_drop : (n : ℕ) (K : List ℕ) → NumbersBelow n K → NumbersBelow n (drop 1 K)
unfolding NumbersBelow
below_drop n [] b = b
below_drop n (i ∷ K) b = b.1

standing_drop : (l : List ℤ) (n : ℕ) (K : List ℕ) → standing l n (drop 1 K) ≡ drop 1 (standing l n K)
standing_drop l n [] = refl
standing_drop l n (i ∷ K) = refl

length-drop : (K : List ℕ) → length (drop 1 K) ≡ length K - 1
length-drop [] = refl
length-drop (i ∷ K) = let e : length K ≡ suc (length K) - 1 = omega arith in e

pushed_on : (x : ℕ) (K : List ℕ) → length K < stack_most → pushed x K ≡ x ∷ K
unfolding pushed
pushed_on x K h = ap (λ (b : Bool). if b (x ∷ K) K) (lt-ltb (length K) stack_most h)

pub top_below : (n : ℕ) (K : List ℕ) → 1 ≤ length K → NumbersBelow n K → get_or K 0 0 < n
unfolding NumbersBelow
top_below n [] h b = absurd (omega arith)
top_below n (i ∷ K) h b = b.0

pub next_below : (n : ℕ) (K : List ℕ) → 2 ≤ length K → NumbersBelow n K → get_or (drop 1 K) 0 0 < n
unfolding NumbersBelow
next_below n [] h b = absurd (omega arith)
next_below n (i ∷ []) h b = absurd (omega arith)
next_below n (i ∷ j ∷ K) h b = b.1.0

-- ---- something made, and put on the stack

module _ (B : List ℕ) {cap : ℕ} {l : List ℤ} {w : List ℕ} {n : ℕ} (K : List ℕ) (c : Command) (H : List ℕ) {m : Comp Tree} {l' : List ℤ} {w' : List ℕ} {k : Answer} {r : Loaded}
    (Q : RuleRan (load_rule B) cap l w n m l' w' k) (P : PutMade H k r) (b : NumbersBelow n H) (room : length H < stack_most) (up : suc (length H) ≡ height c (length K))
    (is : (E : List Entry) → load_one c (loading (standing l n K) E) ≡ bind m (λ t. ret (loading (t ∷ standing l n H) E)))
    (same : (E : List Entry) → entered c (standing l n K) E ≡ E) where
  grown_r : Grown l n l' r.count
  grown_r = subst (Grown l n l') (sym P.count) (grown Q)

  stack_is : r.stop ≡ 0 → held r.stack ≡ at_of k ∷ H
  stack_is ok = P.stack (sym P.stop ∙ ok) ∙ pushed_on (at_of k) H room

  in_r : r.stop ≡ 0 → at_of k < r.count
  in_r ok = subst (λ (z : ℕ). at_of k < z) (sym P.count) (Q.within (sym P.stop ∙ ok))

  below_r : r.stop ≡ 0 → NumbersBelow r.count (held r.stack)
  unfolding NumbersBelow
  below_r ok = subst (NumbersBelow r.count) (sym (stack_is ok)) (in_r ok, below_more grown_r.more H b)

  run_on : (E : List Entry) → run cap (load_one c (loading (standing l n K) E)) (trees l n) ≡ after (run cap m (trees l n)) (λ t Y. run cap (ret (loading (t ∷ standing l n H) E)) Y)
  run_on E = ap (λ (z : Comp Loading). run cap z (trees l n)) (is E) ∙ run_bind cap m _ (trees l n)

  went : r.stop ≡ 0 → (E : List Entry) → run cap (load_one c (loading (standing l n K) E)) (trees l n) ≡ done (loading (standing l' r.count (held r.stack)) (entered c (standing l n K) E)) (trees l' r.count)
  unfolding after run
  went ok E =
      let ok' : stop_of k ≡ 0 = sym P.stop ∙ ok in
      let X = standing_kept (grown Q) H b in
      run_on E
      ∙ (ap (λ (o : Out Tree). after o (λ t Y. run cap (ret (loading (t ∷ standing l n H) E)) Y)) (sym Q.ran ∙ out_ok k (trees l' (count_of k)) ok')
      ∙ (ap₂ (λ (Y : List Tree) (F : List Entry). done (loading (tree_at l' (count_of k) (at_of k) ∷ Y) F) (trees l' (count_of k))) (sym X) (sym (same E))
      ∙ (ap (λ (z : ℕ). done (loading (standing l' z ((at_of k) ∷ H)) (entered c (standing l n K) E)) (trees l' z)) (sym P.count)
      ∙ ap (λ (Z : List ℕ). done (loading (standing l' r.count Z) (entered c (standing l n K) E)) (trees l' r.count)) (sym (stack_is ok)))))

  stops : (r.stop ≡ 0 → ⊥) → (E : List Entry) → run cap (load_one c (loading (standing l n K) E)) (trees l n) ≡ stopped r.stop
  unfolding after
  stops off E =
      run_on E
      ∙ (ap (λ (o : Out Tree). after o (λ t Y. run cap (ret (loading (t ∷ standing l n H) E)) Y)) (sym Q.ran ∙ out_no k (trees l' (count_of k)) (λ z. off (P.stop ∙ z)))
      ∙ ap stopped (sym P.stop))

  made_step : Stepped B cap l w c n K l' w' r
  made_step = record {
    table = subst (Table (load_rule B) cap l' w') (sym P.count) Q.table;
    grown = grown_r;
    below = below_r;
    high = λ ok. ap length (stack_is ok) ∙ up;
    went = went;
    stops = stops;
  }

-- ---- a leaf

pub leaf_valid : (p : List ℤ) {x : Node} (n : ℕ) → x ≡ leaf_words p → Nums (leaf_words p) → Valid x n
unfolding leaf_words
leaf_valid p n e s = subst (λ (x : Node). Valid x n) (sym e) (record {
  nums = s;
  high_nat = tt;
  low_nat = tt;
  none = λ e. some_not refl e;
  leaf_low = λ _. refl;
  tested = λ d. leaf_not refl d;
  high_below = λ d. leaf_not refl d;
  low_below = λ d. leaf_not refl d;
})

leaf_tree : (p : List ℤ) (X : List Tree) → tree_of (leaf_words p) X ≡ leaf (plain (linear_of p))
unfolding leaf_words linear_held
leaf_tree p X = tree_leaf (leaf_words p) X (leaf_as refl) ∙ ap leaf (leaf_some (leaf_words p) (some_as refl))

pub leaf_grew : {cap : ℕ} {l : List ℤ} {w : List ℕ} {n : ℕ} (p : List ℤ) {x : Node} {l' : List ℤ} {w' : List ℕ} {k : Answer} → x ≡ leaf_words p → Grew cap l w n
    (make (tree_of x (trees l n))) l' w' k → Grew cap l w n (make (leaf (plain (linear_of p)))) l' w' k
leaf_grew {l = l} {n = n} p e Q = grew_as (ap make (ap (λ (x : Node). tree_of x (trees l n)) e ∙ leaf_tree p (trees l n))) Q

pub small_at : {cap : ℕ} {l l' : List ℤ} {w w' : List ℕ} {n : ℕ} {m : Comp Tree} {k : Answer} → Grew cap l w n m l' w' k → stop_of k ≡ 0 → at_of k < 65536
small_at {k = k} Q ok = index_small (at_of k) Q.bare (Q.within ok)

pub small_ran : {R : EntryRule} {cap : ℕ} {l l' : List ℤ} {w w' : List ℕ} {n : ℕ} {m : Comp Tree} {k : Answer} → RuleRan R cap l w n m l' w' k → stop_of k ≡ 0 → at_of k < 65536
small_ran {k = k} Q ok = index_small (at_of k) Q.table.bare (Q.within ok)

-- ---- each command

leaf_one : (p : Linear) (X : List Tree) (E : List Entry) → load_one (push_leaf p) (loading X E) ≡ bind (make (leaf (plain p))) (λ t. ret (loading (t ∷ X) E))
unfolding load_one_with
leaf_one p X E = refl

forbidden_one : (X : List Tree) (E : List Entry) → load_one push_forbidden (loading X E) ≡ bind (make none_leaf) (λ t. ret (loading (t ∷ X) E))
unfolding load_one_with
forbidden_one X E = refl

-- a choice of a stack of two at least
choice_one : (l : List ℤ) (t : Test) (n : ℕ) (H : List ℕ) → 2 ≤ length H → (E : List Entry) → load_choice t (standing l n H) E ≡ bind
    (choose t (tree_at l n (get_or (drop 1 H) 0 0)) (tree_at l n (get_or H 0 0))) (λ x. ret (loading (x ∷ standing l n (drop 1 (drop 1 H))) E))
unfolding load_choice_with
choice_one l t n [] h E = absurd (omega arith)
choice_one l t n (i ∷ []) h E = absurd (omega arith)
choice_one l t n (i ∷ j ∷ H) h E = refl

two_less : (H : List ℕ) → 2 ≤ length H → suc (length (drop 1 (drop 1 H))) ≡ length H - 1
two_less [] h = absurd (omega arith)
two_less (i ∷ []) h = absurd (omega arith)
two_less (i ∷ j ∷ H) h = let e : suc (length H) ≡ suc (suc (length H)) - 1 = omega arith in e

condition_at : (B : List ℕ) (at : ℕ) {k : ℕ} → whole (push_condition k) ≡ read_at B at → test_at B at ≡ condition_test k
unfolding test_read test_in
condition_at B at e = ap test_read (sym e)

linear_at : (B : List ℕ) (at : ℕ) {p : Linear} → whole (push_test p) ≡ read_at B at → test_at B at ≡ test_of p
unfolding test_read test_in
linear_at B at e = ap test_read (sym e)

abbrev Chose : List ℕ → ℕ → List ℤ → List ℕ → ℕ → Loaded → List ℤ → List ℕ → Loaded → Type 0
Chose B cap l w at s l' w' r = ChosenOn (load_rule B) cap l w s.count (choose (test_at B at) (tree_at l s.count (get_or (drop 1 (held s.stack)) 0 0))
    (tree_at l s.count (get_or (held s.stack) 0 0))) (drop 1 (drop 1 (held s.stack))) l' w' r

chosen_step : (B : List ℕ) (at n : ℕ) {cap : ℕ} {l : List ℤ} {w : List ℕ} {l' : List ℤ} {w' : List ℕ} {r : Loaded} (t : Test) (c : Command) → test_at B at ≡ t →
    (K : List ℕ) → NumbersBelow n K → 2 ≤ length K → length K ≤ stack_most → length K - 1 ≡ height c (length K)
    → ((X : List Tree) (E : List Entry) → load_one c (loading X E) ≡ load_choice t X E) → ((X : List Tree) (E : List Entry) → entered c X E ≡ E)
    → ChosenOn (load_rule B) cap l w n (choose (test_at B at) (tree_at l n (get_or (drop 1 K) 0 0)) (tree_at l n (get_or K 0 0))) (drop 1 (drop 1 K)) l' w' r → Stepped B cap l w c n K l' w' r
chosen_step B at n {l = l} t c e K b two most up is same G =
    let d = two_less K two in
    made_step B K c (drop 1 (drop 1 K)) G.ran G.put (below_drop n (drop 1 K) (below_drop n K b)) (omega arith) (d ∙ up)
    (λ E. is (standing l n K) E ∙ (choice_one l t n K two E ∙ ap (λ (u : Test). bind (choose u (tree_at l n (get_or (drop 1 K) 0 0)) (tree_at l n (get_or K 0 0))) (λ x. ret (loading (x ∷ standing l n (drop 1 (drop 1 K))) E))) (sym e)))
    (same (standing l n K))

-- with the numbers that the code takes off the stack
pub chosen : {R : EntryRule} {cap : ℕ} {l : List ℤ} {w : List ℕ} {n : ℕ} (t : Test) (K K₁ K₂ : List ℕ) {high low : ℕ} {l' : List ℤ} {w' : List ℕ} {k : Answer} {r : Loaded} → low ≡ get_or K 0 0 → K₁ ≡ drop 1 K → high ≡ get_or K₁ 0 0 → K₂ ≡ drop 1 K₁
    → RuleRan R cap l w n (choose t (tree_at l n high) (tree_at l n low)) l' w' k → PutMade K₂ k r → ChosenOn R cap l w n (choose t (tree_at l n (get_or (drop 1 K) 0 0)) (tree_at l n (get_or K 0 0))) (drop 1 (drop 1 K)) l' w' r
chosen {l = l} {n = n} t K K₁ K₂ {k = k} {r} a b c d Q P = record {
  made = k;
  ran = ran_as (ap₂ (λ (x y : ℕ). choose t (tree_at l n x) (tree_at l n y)) (c ∙ ap (λ (Z : List ℕ). get_or Z 0 0) b) a) Q;
  put = subst (λ (Z : List ℕ). PutMade Z k r) (d ∙ ap (drop 1) b) P;
}

pub low_fits : {n x : ℕ} (K : List ℕ) → x ≡ get_or K 0 0 → get_or K 0 0 < n → x < n
low_fits {n} K e h = subst (λ (z : ℕ). z < n) (sym e) h

pub high_fits : {n x : ℕ} (K K₁ : List ℕ) → K₁ ≡ drop 1 K → x ≡ get_or K₁ 0 0 → get_or (drop 1 K) 0 0 < n → x < n
high_fits {n} K K₁ d e h = subst (λ (z : ℕ). z < n) (sym (e ∙ ap (λ (Z : List ℕ). get_or Z 0 0) d)) h

module _ (B : List ℕ) (at : ℕ) {cap : ℕ} {l : List ℤ} {w : List ℕ} {s : Loaded} {l' : List ℤ} {w' : List ℕ} {r : Loaded} where
  pub leaf_step : (p : Linear) → StepReady B cap l w at (push_leaf p) s → GrownOn cap l w s.count (make (leaf (plain p))) (held s.stack) l' w' r → Stepped B cap l w (push_leaf p) s.count (held s.stack) l' w' r
  unfolding Able height entered
  leaf_step p y G = made_step B (held s.stack) (push_leaf p) (held s.stack) (lifted y.table G.grew) G.put y.below y.able refl (leaf_one p (standing l s.count (held s.stack))) (λ E. refl)

  pub forbidden_step : StepReady B cap l w at push_forbidden s → GrownOn cap l w s.count (make none_leaf) (held s.stack) l' w' r → Stepped B cap l w push_forbidden s.count (held s.stack) l' w' r
  unfolding Able height entered
  forbidden_step y G = made_step B (held s.stack) push_forbidden (held s.stack) (lifted y.table G.grew) G.put y.below y.able refl (forbidden_one (standing l s.count (held s.stack))) (λ E. refl)

  pub condition_step : (k : ℕ) → StepReady B cap l w at (push_condition k) s → Chose B cap l w at s l' w' r → Stepped B cap l w (push_condition k) s.count (held s.stack) l' w' r
  unfolding Able height entered load_one_with
  condition_step k y G = chosen_step B at s.count (condition_test k) (push_condition k) (condition_at B at y.here) (held s.stack) y.below y.able.0 y.able.1 refl (λ X E. refl) (λ X E. refl) G

  pub test_step : (p : Linear) → StepReady B cap l w at (push_test p) s → Chose B cap l w at s l' w' r → Stepped B cap l w (push_test p) s.count (held s.stack) l' w' r
  unfolding Able height entered load_one_with
  test_step p y G = chosen_step B at s.count (test_of p) (push_test p) (linear_at B at y.here) (held s.stack) y.below y.able.0 y.able.1 refl (λ X E. refl) (λ X E. refl) G

-- what a choice asks
pub condition_asks : {B : List ℕ} {cap : ℕ} {l : List ℤ} {w : List ℕ} {at : ℕ} {s : Loaded} (k : ℕ) → StepReady B cap l w at (push_condition k) s → Table
    (load_rule B) cap l w s.count × Testing B at × (get_or (drop 1 (held s.stack)) 0 0 < s.count) × (get_or (held s.stack) 0 0 < s.count)
unfolding Able condition_read condition_in
condition_asks {B} {at = at} {s} k y =
    let e : k ≡ condition_read (read_at B at) = ap condition_read y.here in
    let h = y.able.0 in (
      y.table,
      record { within = y.short; least = subst (λ (z : ℕ). 0 < z) e y.able.2; most = subst (λ (z : ℕ). z ≤ conditions_most + conditions_most) e y.able.3 },
      next_below s.count (held s.stack) h y.below,
      top_below s.count (held s.stack) (omega arith) y.below,
    )

pub test_asks : {B : List ℕ} {cap : ℕ} {l : List ℤ} {w : List ℕ} {at : ℕ} {s : Loaded} (p : Linear) → StepReady B cap l w at (push_test p) s → Table (load_rule B) cap l w
    s.count × Testing B at × (get_or (drop 1 (held s.stack)) 0 0 < s.count) × (get_or (held s.stack) 0 0 < s.count)
unfolding Able condition_read condition_in
test_asks {B} {at = at} {s} p y =
    let e : 1 ≡ condition_read (read_at B at) = ap condition_read y.here in
    let h = y.able.0 in (
      y.table,
      record { within = y.short; least = omega (arith, e); most = omega (arith, e) },
      next_below s.count (held s.stack) h y.below,
      top_below s.count (held s.stack) (omega arith) y.below,
    )

-- ---- a command that makes nothing

entry_one : (g : Slot) (X : List Tree) (E : List Entry) → load_entry g X E ≡ ret (loading (drop 1 X) (given_to g X E))
unfolding load_entry given_to
entry_one g [] E = refl
entry_one g (t ∷ X) E = refl

module _ {B : List ℕ} {cap : ℕ} {l : List ℤ} {w : List ℕ} {at : ℕ} {s : Loaded} {r : Loaded} where
  still_step : (c : Command) → StepReady B cap l w at c s → r.stop ≡ s.stop → r.count ≡ s.count → (H : List ℕ) → held r.stack ≡ H → NumbersBelow s.count H → length H ≡ height c (length (held s.stack))
      → ((E : List Entry) → load_one c (loading (standing l s.count (held s.stack)) E) ≡ ret (loading (standing l s.count H) (entered c (standing l s.count (held s.stack)) E)))
      → Stepped B cap l w c s.count (held s.stack) l w r
  unfolding run
  still_step c y es en H eh b up is = record {
    table = subst (Table (load_rule B) cap l w) (sym en) y.table;
    grown = subst (Grown l s.count l) (sym en) (grown_not l s.count);
    below = λ ok. subst (λ (Z : List ℕ). NumbersBelow r.count Z) (sym eh) (subst (λ (z : ℕ). NumbersBelow z H) (sym en) b);
    high = λ ok. ap length eh ∙ up;
    went = λ ok E. ap (λ (z : Comp Loading). run cap z (trees l s.count)) (is E)
        ∙ ap₂ (λ (z : ℕ) (Z : List ℕ). done (loading (standing l z Z) (entered c (standing l s.count (held s.stack)) E)) (trees l z)) (sym en) (sym eh);
    stops = λ off E. absurd (off (es ∙ y.none));
  }

  took : (c : Command) (g : Slot) → StepReady B cap l w at c s → Popped s r → length (held s.stack) - 1 ≡ height c (length (held s.stack))
      → ((X : List Tree) (E : List Entry) → load_one c (loading X E) ≡ load_entry g X E) → ((X : List Tree) (E : List Entry) → entered c X E ≡ given_to g X E) → Stepped B cap l w c s.count (held s.stack) l w r
  took c g y P up is en =
      still_step c y P.stop P.count (drop 1 (held s.stack)) P.stack (below_drop s.count (held s.stack) y.below) (length-drop (held s.stack) ∙ up)
      (λ E. is _ E ∙ (entry_one g _ E ∙ ap₂ (λ (X : List Tree) (F : List Entry). ret (loading X F)) (sym (standing_drop l s.count (held s.stack))) (sym (en _ E))))

  pub give_step : (g : Slot) → StepReady B cap l w at (give g) s → Popped s r → Stepped B cap l w (give g) s.count (held s.stack) l w r
  unfolding height entered load_one_with
  give_step g y P = took (give g) g y P refl (λ X E. refl) (λ X E. refl)

-- a command that leaves all as it is
module _ {B : List ℕ} {cap : ℕ} {l : List ℤ} {w : List ℕ} {at : ℕ} {s : Loaded} where
  pub other_step : (d : CodeCommand) → (d ≡ Leaf → ⊥) → ((i : ℕ) → d ≡ Condition i → ⊥) → (d ≡ TestBy → ⊥) → (d ≡ Forbidden → ⊥) → ((x a j : ℕ) → d ≡ Give x a j → ⊥) → StepReady B cap l w at (command_of B at d) s → Stepped B cap l w (command_of B at d) s.count (held s.stack) l w s
  unfolding command_of_in height entered load_one_with
  other_step (Site m n a v) hl hc ht hf hg y = still_step (site m n a v) y refl refl (held s.stack) refl y.below refl (λ E. refl)
  other_step Leaf hl hc ht hf hg y = absurd (hl refl)
  other_step (Condition i) hl hc ht hf hg y = absurd (hc i refl)
  other_step TestBy hl hc ht hf hg y = absurd (ht refl)
  other_step Forbidden hl hc ht hf hg y = absurd (hf refl)
  other_step (Give x a j) hl hc ht hf hg y = absurd (hg x a j refl)
  other_step (Name a) hl hc ht hf hg y = still_step (name_action a _) y refl refl (held s.stack) refl y.below refl (λ E. refl)
  other_step End hl hc ht hf hg y = still_step end_model y refl refl (held s.stack) refl y.below refl (λ E. refl)

-- ---- by the command that the code has

pub ready_as : {B : List ℕ} {cap : ℕ} {l : List ℤ} {w : List ℕ} {at : ℕ} {s : Loaded} (d e : CodeCommand) → d ≡ e → StepReady B cap l w at (command_of B at d) s → StepReady B cap l w at (command_of B at e) s
ready_as {B} {cap} {l} {w} {at} {s} d e p y = subst (λ (x : CodeCommand). StepReady B cap l w at (command_of B at x) s) p y

pub step_as : {B : List ℕ} {cap : ℕ} {l : List ℤ} {w : List ℕ} {at : ℕ} {s : Loaded} {l' : List ℤ} {w' : List ℕ} {r : Loaded} (d e : CodeCommand) → d ≡ e → StepReady B cap l w at (command_of B at d) s
    → (StepReady B cap l w at (command_of B at e) s → Stepped B cap l w (command_of B at e) s.count (held s.stack) l' w' r) → Stepped B cap l w (command_of B at d) s.count (held s.stack) l' w' r
step_as {B} {cap} {l} {w} {at} {s} {l'} {w'} {r} d e p y k = subst (λ (x : CodeCommand). Stepped B cap l w (command_of B at x) s.count (held s.stack) l' w' r) (sym p) (k (ready_as d e p y))

-- a leaf whose linear is read from the bytes
module _ {B : List ℕ} {cap : ℕ} {l : List ℤ} {w : List ℕ} {at : ℕ} {s : Loaded} {q : Linear} (y : StepReady B cap l w at (push_leaf q) s) where
  pub leaf_there : at + with_linear ≤ length B
  unfolding has_linear
  leaf_there = linear_room new_form B at (push_leaf q) tt y.here

  module _ (p : List ℤ) (e : Smalls p × (linear_of p ≡ q)) where
    pub leaf_read : Bare cap l w s.count × Nums (leaf_words p)
    leaf_read = (y.table.bare, words_nums p e.0)

    pub leaf_loaded : {l' : List ℤ} {w' : List ℕ} {r : Loaded} → GrownOn cap l w s.count (make (leaf (plain (linear_of p)))) (held s.stack) l' w' r
        → Stepped B cap l w (push_leaf q) s.count (held s.stack) l' w' r
    leaf_loaded {l'} {w'} {r} G = leaf_step B at q y (subst (λ (z : Linear). GrownOn cap l w s.count (make (leaf (plain z))) (held s.stack) l' w' r) e.1 G)
