-- The order of the words is the order of the tests.
use mathlib.Core.Path.{◌≡◌, refl, sym, ap, ap₂, ◌∙◌, subst}
use mathlib.Core.Bool.{Bool, true, false, cond}
use Prim.Native.Nat.{ℕ, zero, suc, ◌+◌, ◌*◌, ◌-◌, ◌≤◌, ◌<◌, ◌^◌, compare, Ordering}
use native.Mathlib.Omega.{arith}
use borrow.Author.Tests.{ltb-true, ltb-false}
use mathlib.Core.List.{List, [], ◌∷◌}
use native.Mathlib.Nat.{suc_inj, add-zero}
use lib.Dec.{T, ltb, compare_is_eq}
use lib.IntN.{ℤ, pos, nat_abs}
use lib.ListN.{length, get_or, take, drop, length-drop}
use lib.Seq.{length-take-le, take_all, get_or-take, get_or-drop}
use lib.Signed.{pos-nat_abs, mag, lt_z}
use mir.Syntax.{w64}
use mir.Val.{of_z, to_z}
use Rattle.whole.specs.Linears.{numbers, ord_num}
use Rattle.whole.proofs.Comparing.{cmp_lt, cmp_gt, cmp_same, lt_cmp, gt_cmp, eq_cmp, num_eq, then_here, then_on, cmp_back, order_differs, order_goes, order_ends}
use Rattle.table.proofs.Words.{R, back, same_bits}
use Rattle.table.proofs.Look.{eq_ℤ_true}
use Rattle.table.specs.Table.{node_words, node_at, eq_ℤ}
use Rattle.table.specs.declared.Node.{Node}
use Rattle.theory.specs.Widths.{levels_most, conditions_most}
use Rattle.theory.proofs.laws.Comps.{cmp_ℤ_eq, cmp_ℤ_refl}
use Rattle.theory.specs.Diagram.{Linear, Test, now, later, linear, then, cmp_ℤ, cmp_list, cmp_linear, cmp}
use Rattle.rule_node.specs.Nodes.{linear_held, first_of, condition_of, test_held, Tested}
use Rattle.rule_node.specs.Roots.{order_of, ordering}
use Rattle.std.specs.declared.cmp.Ordering.{Ordering as Compared}
use Rattle.std.specs.declared.cmp.Ordering.TheVariants.{Less, Equal, Greater}
use Rattle.std.specs.Ordering.{ordering_index, int_cmp}
use Rattle.rule_node.proofs.Trees.{test_con, test_lin, later_is, now_is, by_word}

then_idr : (o : Ordering) → then o Ordering.eq ≡ o
then_idr Ordering.lt = refl
then_idr Ordering.eq = refl
then_idr Ordering.gt = refl

then_assoc : (o p q : Ordering) → then (then o p) q ≡ then o (then p q)
then_assoc Ordering.lt p q = refl
then_assoc Ordering.eq p q = refl
then_assoc Ordering.gt p q = refl

-- by the first m numbers and then by the last
last_order : (m : ℕ) (a b : List ℤ) → length a ≡ suc m → length b ≡ suc m → cmp_list a b ≡ then (cmp_list (take m a) (take m b)) (cmp_ℤ (get_or a m (pos 0)) (get_or b m (pos 0)))
unfolding cmp_list
last_order m [] b e d = absurd (omega arith)
last_order m (x ∷ a) [] e d = absurd (omega arith)
last_order zero (x ∷ []) (y ∷ []) e d = then_idr (cmp_ℤ x y)
last_order zero (x ∷ []) (y ∷ z ∷ b) e d = absurd (omega arith)
last_order zero (x ∷ w ∷ a) (y ∷ b) e d = absurd (omega arith)
last_order (suc m) (x ∷ a) (y ∷ b) e d = ap (then (cmp_ℤ x y)) (last_order m a b (suc_inj e) (suc_inj d)) ∙ sym (then_assoc (cmp_ℤ x y) (cmp_list (take m a) (take m b)) (cmp_ℤ (get_or a m (pos 0)) (get_or b m (pos 0))))

-- words that differ are not compared as equal
words_differ : (x y : ℤ) → mag x < 2 ^ 63 → mag y < 2 ^ 63 → (of_z w64 x ≡ of_z w64 y → ⊥) → {r : ℕ} → r ≡ ord_num (cmp_ℤ (R x) (R y)) → r ≡ 1 → ⊥
words_differ x y fx fy n e d = n (ap (of_z w64) (cmp_ℤ_eq x y (subst (λ (o : Ordering). T (compare_is_eq o)) (sym (num_eq (cmp_ℤ x y) (cmp_back x y fx fy e) d)) tt)))

-- and those that do not are
words_same : (x y : ℤ) → of_z w64 x ≡ of_z w64 y → 1 ≡ ord_num (cmp_ℤ (R x) (R y))
unfolding ord_num
words_same x y e = ap ord_num (sym (cmp_ℤ_refl (R x)) ∙ ap (cmp_ℤ (R x)) (ap (to_z w64) e))

-- numbers where they stand: those of l from i on, and those of m from j on
module _ (l m : List ℤ) (i j : ℕ) (hl : i + numbers ≤ length l) (hm : j + numbers ≤ length m) where
  abbrev a : List ℤ
  a = take numbers (drop i l)

  abbrev b : List ℤ
  b = take numbers (drop j m)

  long : (n : List ℤ) (at : ℕ) → at + numbers ≤ length n → length (take numbers (drop at n)) ≡ numbers
  long n at h = length-take-le numbers (drop at n) (let e = length-drop at n in omega arith)

  part : (n : List ℤ) (at k : ℕ) → k < numbers → get_or (take numbers (drop at n)) k (pos 0) ≡ get_or n (at + k) (pos 0)
  part n at k h = get_or-take numbers (drop at n) k (pos 0) h ∙ get_or-drop at n k (pos 0)

  -- the k-th of each, all before them being equal
  module _ (k : ℕ) (is : cmp_list (drop k a) (drop k b) ≡ cmp_list a b) (h : k < numbers) (fx : mag (get_or l (i + k) (pos 0)) < 2 ^ 63) (fy : mag (get_or m (j + k) (pos 0)) < 2 ^ 63) where
    abbrev x : ℤ
    x = get_or l (i + k) (pos 0)

    abbrev y : ℤ
    y = get_or m (j + k) (pos 0)

    fits : (n : List ℤ) (at : ℕ) → mag (get_or n (at + k) (pos 0)) < 2 ^ 63 → mag (get_or (take numbers (drop at n)) k (pos 0)) < 2 ^ 63
    fits n at f = subst (λ (z : ℤ). mag z < 2 ^ 63) (sym (part n at k h)) f

    there : {r : ℕ} → r ≡ ord_num (cmp_ℤ (R x) (R y)) → r ≡ ord_num (cmp_ℤ (R (get_or a k (pos 0))) (R (get_or b k (pos 0))))
    there e = e ∙ ap₂ (λ (p q : ℤ). ord_num (cmp_ℤ (R p) (R q))) (sym (part l i k h)) (sym (part m j k h))

    -- they decide where they differ
    unlike : {r : ℕ} → r ≡ ord_num (cmp_ℤ (R x) (R y)) → (r ≡ 1 → ⊥) → r ≡ ord_num (cmp_list a b)
    unlike e n = order_differs a b (long l i hl) (long m j hm) k is h (fits l i fx) (fits m j fy) (there e) n

    alike : 1 ≡ ord_num (cmp_ℤ (R x) (R y)) → cmp_list (drop (k + 1) a) (drop (k + 1) b) ≡ cmp_list a b
    alike e = order_goes a b (long l i hl) (long m j hm) k is h (fits l i fx) (fits m j fy) (there e) refl

    pub number_differs : (of_z w64 x ≡ of_z w64 y → ⊥) → {r : ℕ} → r ≡ ord_num (cmp_ℤ (R x) (R y)) → r ≡ ord_num (cmp_list a b)
    number_differs n e = unlike e (words_differ x y fx fy n e)

    pub number_same : of_z w64 x ≡ of_z w64 y → cmp_list (drop (k + 1) a) (drop (k + 1) b) ≡ cmp_list a b
    number_same e = alike (words_same x y e)

  -- the first of each
  abbrev First : ℕ → ℕ → ℕ → Type 0
  First r u v = mag (get_or l u (pos 0)) < 2 ^ 63 → mag (get_or m v (pos 0)) < 2 ^ 63 → (of_z w64 (get_or l u (pos 0)) ≡ of_z w64 (get_or m v (pos 0)) → ⊥)
      → r ≡ ord_num (cmp_ℤ (R (get_or l u (pos 0))) (R (get_or m v (pos 0)))) → r ≡ ord_num (cmp_list a b)

  pub first_differs : (r : ℕ) → First r i j
  first_differs r = subst (λ (u : ℕ). First r u j) (add-zero i) (subst (λ (v : ℕ). First r (i + 0) v) (add-zero j) (λ fx fy n e. number_differs 0 refl (omega arith) fx fy n e))

  -- the constant decides, where the coefficients are equal
  pub constant_order : (k : ℕ) → k ≡ levels_most → cmp_list (drop k a) (drop k b) ≡ cmp_list a b → mag (get_or l (i + levels_most) (pos 0)) < 2 ^ 63 → mag (get_or m (j + levels_most) (pos 0)) < 2 ^ 63
      → {r : ℕ} → r ≡ ord_num (cmp_ℤ (R (get_or l (i + levels_most) (pos 0))) (R (get_or m (j + levels_most) (pos 0)))) → r ≡ ord_num (cmp_list a b)
  constant_order k ek is fx fy {r} e = go r e
    where
      here : cmp_list (drop levels_most a) (drop levels_most b) ≡ cmp_list a b
      here = subst (λ (k : ℕ). cmp_list (drop k a) (drop k b) ≡ cmp_list a b) ek is

      go : (r : ℕ) → r ≡ ord_num (cmp_ℤ (R (get_or l (i + levels_most) (pos 0))) (R (get_or m (j + levels_most) (pos 0)))) → r ≡ ord_num (cmp_list a b)
      go zero e = unlike levels_most here (omega arith) fx fy e (λ d. omega arith)
      go (suc zero) e = order_ends a b (long l i hl) (long m j hm) (levels_most + 1) (alike levels_most here (omega arith) fx fy e) (omega arith)
      go (suc (suc r)) e = unlike levels_most here (omega arith) fx fy e (λ d. omega arith)

linear_order : (x y : Node) → length x.n ≡ numbers → length y.n ≡ numbers → cmp_list x.n y.n ≡ cmp (linear (linear_held x)) (linear (linear_held y))
unfolding cmp cmp_linear linear_held
linear_order x y n m = last_order levels_most x.n y.n n m

-- zeros do not differ
zero_order : (a b : List ℤ) → length a ≡ length b → ((k : ℕ) → get_or a k (pos 0) ≡ pos 0) → ((k : ℕ) → get_or b k (pos 0) ≡ pos 0) → cmp_list a b ≡ Ordering.eq
unfolding cmp_list
zero_order [] [] e u v = refl
zero_order [] (y ∷ b) e u v = absurd (omega arith)
zero_order (x ∷ a) [] e u v = absurd (omega arith)
zero_order (x ∷ a) (y ∷ b) e u v = ap₂ then (ap₂ cmp_ℤ (u 0) (v 0) ∙ eq_cmp 0 0 refl) (zero_order a b (suc_inj e) (λ k. u (suc k)) (λ k. v (suc k)))

-- the first decides where zeros follow
first_order : (a b : List ℤ) → length a ≡ numbers → length b ≡ numbers → ((k : ℕ) → 0 < k → get_or a k (pos 0) ≡ pos 0) → ((k : ℕ) → 0 < k → get_or b k (pos 0) ≡ pos 0) → cmp_list a b ≡ cmp_ℤ (get_or a 0 (pos 0)) (get_or b 0 (pos 0))
unfolding cmp_list
first_order [] b e d u v = absurd (omega arith)
first_order (x ∷ a) [] e d u v = absurd (omega arith)
first_order (x ∷ a) (y ∷ b) e d u v = ap (then (cmp_ℤ x y)) (zero_order a b (omega arith) (λ k. u (suc k) (omega arith)) (λ k. v (suc k) (omega arith))) ∙ then_idr (cmp_ℤ x y)

-- a smaller part taken off both leaves their order
less_both : (i j k : ℕ) → k < i → k < j → compare i j ≡ compare (i - k) (j - k)
less_both i j k p q = go (ltb i j) refl (ltb j i) refl
  where
    go : (a : Bool) → ltb i j ≡ a → (b : Bool) → ltb j i ≡ b → compare i j ≡ compare (i - k) (j - k)
    go true e b d = let h = ltb-true i j e in lt_cmp i j h ∙ sym (lt_cmp (i - k) (j - k) (omega arith))
    go false e true d = let h = ltb-true j i d in gt_cmp i j h ∙ sym (gt_cmp (i - k) (j - k) (omega arith))
    go false e false d = let h = ltb-false i j e in let m = ltb-false j i d in eq_cmp i j (omega arith) ∙ sym (eq_cmp (i - k) (j - k) (omega arith))

-- the conditions' words are in the conditions' order
later_later : (i j : ℕ) → compare i j ≡ cmp (later i) (later j)
unfolding cmp
later_later i j = refl

now_now : (i j : ℕ) → compare i j ≡ cmp (now i) (now j)
unfolding cmp
now_now i j = refl

now_later : (i j : ℕ) → Ordering.lt ≡ cmp (now i) (later j)
unfolding cmp
now_later i j = refl

later_now : (i j : ℕ) → Ordering.gt ≡ cmp (later i) (now j)
unfolding cmp
later_now i j = refl

condition_order : (i j : ℕ) → compare i j ≡ cmp (condition_of i) (condition_of j)
condition_order i j =
    by_word i
    (λ p. by_word j
    (λ q. less_both i j conditions_most p q ∙ (later_later _ _ ∙ sym (ap₂ cmp (later_is i p) (later_is j q))))
    (λ q. gt_cmp i j (omega arith) ∙ (later_now _ _ ∙ sym (ap₂ cmp (later_is i p) (now_is j q)))))
    (λ p. by_word j
    (λ q. lt_cmp i j (omega arith) ∙ (now_later _ _ ∙ sym (ap₂ cmp (now_is i p) (later_is j q))))
    (λ q. now_now i j ∙ sym (ap₂ cmp (now_is i p) (now_is j q))))

nat_order : (a b : ℤ) {p q : ℕ} → a ≡ pos p → b ≡ pos q → cmp_ℤ a b ≡ cmp (condition_of p) (condition_of q)
nat_order a b {p} {q} e d = ap₂ cmp_ℤ e d ∙ condition_order p q

now_lin : (i : ℕ) (q : Linear) → Ordering.lt ≡ cmp (now i) (linear q)
unfolding cmp
now_lin i q = refl

later_lin : (i : ℕ) (q : Linear) → Ordering.lt ≡ cmp (later i) (linear q)
unfolding cmp
later_lin i q = refl

con_lin : (i : ℕ) (q : Linear) → Ordering.lt ≡ cmp (condition_of i) (linear q)
con_lin i q = by_word i (λ p. later_lin _ q ∙ ap (λ (t : Test). cmp t (linear q)) (sym (later_is i p))) (λ p. now_lin _ q ∙ ap (λ (t : Test). cmp t (linear q)) (sym (now_is i p)))

lin_now : (p : Linear) (j : ℕ) → Ordering.gt ≡ cmp (linear p) (now j)
unfolding cmp
lin_now p j = refl

lin_later : (p : Linear) (j : ℕ) → Ordering.gt ≡ cmp (linear p) (later j)
unfolding cmp
lin_later p j = refl

lin_con : (p : Linear) (j : ℕ) → Ordering.gt ≡ cmp (linear p) (condition_of j)
lin_con p j = by_word j (λ q. lin_later p _ ∙ ap (cmp (linear p)) (sym (later_is j q))) (λ q. lin_now p _ ∙ ap (cmp (linear p)) (sym (now_is j q)))

-- kinds that the code has told, o being the order of the numbers
module _ (x y : ℤ) (o : Ordering) (fx : mag x < 2 ^ 63) (fy : mag y < 2 ^ 63) where
  pub kinds_order : (k l : ℕ) → k < 2 ^ 63 → l < 2 ^ 63 → of_z w64 x ≡ of_z w64 (pos k) → of_z w64 y ≡ of_z w64 (pos l) → {r : ℕ} → r ≡ ord_num (then (compare k l) o) → r ≡ ord_num (then (cmp_ℤ x y) o)
  kinds_order k l fk fl p q e = e ∙ sym (ap₂ (λ (a b : ℤ). ord_num (then (cmp_ℤ a b) o)) (same_bits x (pos k) fx fk p) (same_bits y (pos l) fy fl q))

  -- kinds that differ, and kinds that do not
  pub kinds_differ : (of_z w64 x ≡ of_z w64 y → ⊥) → {r : ℕ} → r ≡ ord_num (cmp_ℤ (R x) (R y)) → r ≡ ord_num (then (cmp_ℤ x y) o)
  kinds_differ n e = then_here (cmp_ℤ x y) o (cmp_back x y fx fy e) (words_differ x y fx fy n e)

  pub kinds_same : of_z w64 x ≡ of_z w64 y → {r : ℕ} → r ≡ ord_num o → r ≡ ord_num (then (cmp_ℤ x y) o)
  kinds_same d e = then_on (cmp_ℤ x y) o (cmp_back x y fx fy (words_same x y d)) refl e

  -- kinds that were read from the words
  kinds_read : {r : ℕ} → r ≡ ord_num (then (cmp_ℤ (R x) (R y)) o) → r ≡ ord_num (then (cmp_ℤ x y) o)
  kinds_read e = e ∙ ap₂ (λ (a b : ℤ). ord_num (then (cmp_ℤ a b) o)) (back x fx) (back y fy)

-- a test's words against those of the node at g, as they are read
module _ (l : List ℤ) (g : ℕ) where
  abbrev kind_of : ℕ → ℤ
  kind_of i = get_or l (i * node_words) (pos 0)

  abbrev numbers_of : ℕ → List ℤ
  numbers_of i = take numbers (drop (i * node_words + 1) l)

  module _ (fg : mag (kind_of g) < 2 ^ 63) {r : ℕ} where
    pub order_read : (x : ℤ) (a : List ℤ) → mag x < 2 ^ 63 → r ≡ ord_num (then (cmp_ℤ (R x) (R (kind_of g))) (cmp_list a (numbers_of g))) → r ≡ ord_num (then (cmp_ℤ x (node_at l g).kind) (cmp_list a (node_at l g).n))
    unfolding node_at
    order_read x a fx e = kinds_read x (kind_of g) _ fx fg e

    -- the other is by value, its numbers lent whole
    pub order_lent : (z : Node) → length z.n ≡ numbers → mag z.kind < 2 ^ 63 → r ≡ ord_num (then (cmp_ℤ (R (kind_of g)) (R z.kind)) (cmp_list (numbers_of g) (take numbers z.n))) → r ≡ ord_num (order_of (node_at l g) z)
    unfolding order_of node_at
    order_lent z h fz e = kinds_read (kind_of g) z.kind _ fg fz e ∙ ap (λ (a : List ℤ). ord_num (then (cmp_ℤ (kind_of g) z.kind) (cmp_list (numbers_of g) a))) (take_all numbers z.n (omega arith))

  -- the other stands at f
  pub order_stands : (f : ℕ) → mag (kind_of f) < 2 ^ 63 → {r : ℕ} → r ≡ ord_num (then (cmp_ℤ (R (kind_of f)) (node_at l g).kind) (cmp_list (numbers_of f) (node_at l g).n)) → r ≡ ord_num (order_of (node_at l f) (node_at l g))
  unfolding order_of node_at
  order_stands f h e = e ∙ ap (λ (x : ℤ). ord_num (then (cmp_ℤ x (kind_of g)) (cmp_list (numbers_of f) (numbers_of g)))) (back (kind_of f) h)

-- the order of two nodes' words is the order of their tests
module _ (x y : Node) (vx : Tested x) (vy : Tested y) where
  pub order_is : order_of x y ≡ cmp (test_held x) (test_held y)
  unfolding order_of
  order_is = go (eq_ℤ x.kind (pos 1)) (eq_ℤ y.kind (pos 1)) refl refl
    where
      go : (p q : Bool) → eq_ℤ x.kind (pos 1) ≡ p → eq_ℤ y.kind (pos 1) ≡ q → then (cmp_ℤ x.kind y.kind) (cmp_list x.n y.n) ≡ cmp (test_held x) (test_held y)
      go true true p q =
          (λ i. then (cmp_ℤ (eq_ℤ_true x.kind (pos 1) p i) (eq_ℤ_true y.kind (pos 1) q i)) (first_order x.n y.n vx.long vy.long (vx.rest p) (vy.rest q) i))
          ∙ (nat_order (first_of x) (first_of y) (sym (pos-nat_abs (first_of x) (vx.number p))) (sym (pos-nat_abs (first_of y) (vy.number q))) ∙ sym (ap₂ cmp (test_con x p) (test_con y q)))
      go true false p q =
          (λ i. then (cmp_ℤ (eq_ℤ_true x.kind (pos 1) p i) (vy.kind q i)) (cmp_list x.n y.n))
          ∙ (con_lin (nat_abs (first_of x)) (linear_held y) ∙ sym (ap₂ cmp (test_con x p) (test_lin y q)))
      go false true p q =
          (λ i. then (cmp_ℤ (vx.kind p i) (eq_ℤ_true y.kind (pos 1) q i)) (cmp_list x.n y.n))
          ∙ (lin_con (linear_held x) (nat_abs (first_of y)) ∙ sym (ap₂ cmp (test_lin x p) (test_con y q)))
      go false false p q =
          (λ i. then (cmp_ℤ (vx.kind p i) (vy.kind q i)) (cmp_list x.n y.n))
          ∙ (linear_order x y vx.long vy.long ∙ sym (ap₂ cmp (test_lin x p) (test_lin y q)))

-- ---- an order, as the code has it

module _ (a b : ℤ) where
  told : (p q : Bool) → lt_z a b ≡ p → lt_z b a ≡ q → ordering_index (cond p Less (cond q Greater Equal)) ≡ ord_num (cmp_ℤ a b)
  unfolding ord_num
  told true q e d = ap ord_num (sym (cmp_lt a b e))
  told false true e d = ap ord_num (sym (cmp_gt a b d))
  told false false e d = ap ord_num (sym (cmp_same a b e d))

  -- of two numbers
  pub compared : {r : Compared} → r ≡ int_cmp a b → ordering_index r ≡ ord_num (cmp_ℤ a b)
  compared e = ap ordering_index e ∙ told (lt_z a b) (lt_z b a) refl refl

pub index_of : {r : Compared} (o : Ordering) → r ≡ ordering o → ordering_index r ≡ ord_num o
unfolding ord_num
index_of Ordering.lt e = ap ordering_index e
index_of Ordering.eq e = ap ordering_index e
index_of Ordering.gt e = ap ordering_index e

pub ordered : (r : Compared) (o : Ordering) → ordering_index r ≡ ord_num o → r ≡ ordering o
unfolding ord_num
ordered Less Ordering.lt e = refl
ordered Less Ordering.eq e = absurd (omega arith)
ordered Less Ordering.gt e = absurd (omega arith)
ordered Equal Ordering.lt e = absurd (omega arith)
ordered Equal Ordering.eq e = refl
ordered Equal Ordering.gt e = absurd (omega arith)
ordered Greater Ordering.lt e = absurd (omega arith)
ordered Greater Ordering.eq e = absurd (omega arith)
ordered Greater Ordering.gt e = refl
