-- Laws of computations: what they come to, runs one after another, and runs again.
use Rattle.std.specs.Prelude.{◌≡◌, refl, ◌⊎◌, Bool, true, false, ◌&&◌, List, [], ◌∷◌, ◌++◌, T, eqb, ltb, ℤ, pos, negsuc, length, get_or}
use Rattle.std.proofs.Common.{sym, ap, ap₂, ◌∙◌, inl, inr, arith, eq-eqb, eqb→eq}
use Prim.Native.Nat.{ℕ, zero, suc, ◌<◌, max, compare, Ordering}
use Rattle.std.proofs.Math.Dec.{compare_is_eq}
use Rattle.whole.specs.Cases.{if, by_test, both, clash, from_true}
use Rattle.whole.specs.Within.{small}
use Rattle.theory.specs.Diagram.{Linear, Test, now, later, linear, Leaf, some, forbidden, Tree, leaf, branch, then, cmp_ℤ, cmp_list, cmp_linear, cmp, same_leaf, same}
use Rattle.theory.specs.Computation.{Comp, ret, named, made, bind, result, names, judge, Out, done, stopped, member, run, enter_all, Ops, end, operation, and_then, final, solved}
use Rattle.theory.specs.Computation.{refused, run_all}
use Rattle.theory.specs.Computation as C
use Rattle.theory.specs.Valid.{all, small_linear}

-- ---- equal by the order

then_eq : (o p : Ordering) → T (compare_is_eq (then o p)) → T (compare_is_eq o) × T (compare_is_eq p)
then_eq Ordering.lt p t = absurd t
then_eq Ordering.eq p t = (tt, t)
then_eq Ordering.gt p t = absurd t

pub cmp_ℤ_eq : (a b : ℤ) → T (compare_is_eq (cmp_ℤ a b)) → a ≡ b
cmp_ℤ_eq (pos a) (pos b) t = ap pos (eqb→eq a b t)
cmp_ℤ_eq (pos a) (negsuc b) t = absurd t
cmp_ℤ_eq (negsuc a) (pos b) t = absurd t
cmp_ℤ_eq (negsuc a) (negsuc b) t = ap negsuc (sym (eqb→eq b a t))

pub cmp_list_eq : (a b : List ℤ) → T (compare_is_eq (cmp_list a b)) → a ≡ b
unfolding cmp_list
cmp_list_eq [] [] t = refl
cmp_list_eq [] (b ∷ s) t = absurd t
cmp_list_eq (a ∷ r) [] t = absurd t
cmp_list_eq (a ∷ r) (b ∷ s) t =
    let d = then_eq (cmp_ℤ a b) (cmp_list r s) t in
    ap₂ ◌∷◌ (cmp_ℤ_eq a b d.0) (cmp_list_eq r s d.1)

pub cmp_linear_eq : (p q : Linear) → T (compare_is_eq (cmp_linear p q)) → p ≡ q
unfolding cmp_linear
cmp_linear_eq p q t =
    let d = then_eq (cmp_list p.coeffs q.coeffs) (cmp_ℤ p.const q.const) t in
    λ i. record { coeffs = cmp_list_eq p.coeffs q.coeffs d.0 i; const = cmp_ℤ_eq p.const q.const d.1 i }

pub cmp_eq : (t u : Test) → T (compare_is_eq (cmp t u)) → t ≡ u
unfolding cmp
cmp_eq (now i) (now j) t = ap now (eqb→eq i j t)
cmp_eq (now i) (later j) t = absurd t
cmp_eq (now i) (linear q) t = absurd t
cmp_eq (later i) (now j) t = absurd t
cmp_eq (later i) (later j) t = ap later (eqb→eq i j t)
cmp_eq (later i) (linear q) t = absurd t
cmp_eq (linear p) (now j) t = absurd t
cmp_eq (linear p) (later j) t = absurd t
cmp_eq (linear p) (linear q) t = ap linear (cmp_linear_eq p q t)

pub same_leaf_eq : (f g : Leaf) → T (same_leaf f g) → f ≡ g
unfolding same_leaf
same_leaf_eq (some p a) (some q b) t =
    let d = both (compare_is_eq (cmp_linear p q)) (eqb a b) t in
    ap₂ some (cmp_linear_eq p q d.0) (eqb→eq a b d.1)
same_leaf_eq (some p a) forbidden t = absurd t
same_leaf_eq forbidden (some q b) t = absurd t
same_leaf_eq forbidden forbidden t = refl

pub same_eq : (F G : Tree) → T (same F G) → F ≡ G
unfolding same
same_eq (leaf f) (leaf g) t = ap leaf (same_leaf_eq f g t)
same_eq (leaf f) (branch u h l) t = absurd t
same_eq (branch t h l) (leaf g) s = absurd s
same_eq (branch t h l) (branch u h' l') s =
    let d = both (compare_is_eq (cmp t u) && same h h') (same l l') s in
    let c = both (compare_is_eq (cmp t u)) (same h h') d.0 in
    cc (cmp_eq t u c.0, same_eq h h' c.1, same_eq l l' d.1)

-- ---- and back

order_refl : (n : ℕ) → compare n n ≡ Ordering.eq
order_refl n = go (compare n n) (eq-eqb n n refl)
  where
    go : (o : Ordering) → compare_is_eq o ≡ true → o ≡ Ordering.eq
    go Ordering.lt e = absurd (let z : ◌≡◌ {A = ℕ} 0 1 = cc in omega arith)
    go Ordering.eq e = refl
    go Ordering.gt e = absurd (let z : ◌≡◌ {A = ℕ} 0 1 = cc in omega arith)

pub cmp_ℤ_refl : (a : ℤ) → cmp_ℤ a a ≡ Ordering.eq
cmp_ℤ_refl (pos a) = order_refl a
cmp_ℤ_refl (negsuc a) = order_refl a

pub cmp_list_refl : (a : List ℤ) → cmp_list a a ≡ Ordering.eq
unfolding cmp_list
cmp_list_refl [] = refl
cmp_list_refl (a ∷ r) = ap (λ (o : Ordering). then o (cmp_list r r)) (cmp_ℤ_refl a) ∙ cmp_list_refl r

pub cmp_linear_refl : (p : Linear) → cmp_linear p p ≡ Ordering.eq
unfolding cmp_linear
cmp_linear_refl p = ap (λ (o : Ordering). then o (cmp_ℤ p.const p.const)) (cmp_list_refl p.coeffs) ∙ cmp_ℤ_refl p.const

pub cmp_refl : (t : Test) → cmp t t ≡ Ordering.eq
unfolding cmp
cmp_refl (now i) = order_refl i
cmp_refl (later i) = order_refl i
cmp_refl (linear p) = cmp_linear_refl p

pub same_leaf_refl : (f : Leaf) → same_leaf f f ≡ true
unfolding same_leaf
same_leaf_refl (some p a) = ap₂ (λ (o : Ordering) (b : Bool). compare_is_eq o && b) (cmp_linear_refl p) (eq-eqb a a refl)
same_leaf_refl forbidden = refl

pub same_refl : (F : Tree) → same F F ≡ true
unfolding same
same_refl (leaf f) = same_leaf_refl f
same_refl (branch t h l) = λ i. compare_is_eq (cmp_refl t i) && same_refl h i && same_refl l i

pub same_not : (F G : Tree) → (F ≡ G → ⊥) → same F G ≡ false
same_not F G n = by_test (same F G) (λ b. b ≡ false) (λ t. absurd (n (same_eq F G t))) (λ _. refl)

-- ---- one after another

pub bind_bind : {A B C : Type 0} (m : Comp A) (j : A → Comp B) (k : B → Comp C) → bind (bind m j) k ≡ bind m (λ x. bind (j x) k)
unfolding bind
bind_bind (ret a) j k = refl
bind_bind (named z m) j k = ap (named z) (bind_bind m j k)
bind_bind (made t m) j k = ap (made t) (bind_bind m j k)

pub bind_ret : {A : Type 0} (m : Comp A) → bind m ret ≡ m
unfolding bind
bind_ret (ret a) = refl
bind_ret (named z m) = ap (named z) (bind_ret m)
bind_ret (made t m) = ap (made t) (bind_ret m)

-- ---- results

pub result_bind : {A B : Type 0} (m : Comp A) (k : A → Comp B) → result (bind m k) ≡ result (k (result m))
unfolding result bind
result_bind (ret a) k = refl
result_bind (named z m) k = result_bind m k
result_bind (made t m) k = result_bind m k

pub result_both : (mk : Tree → Tree → Comp Tree) (m₁ m₂ : Comp Tree) → result (C.both mk m₁ m₂) ≡ result (mk (result m₁) (result m₂))
unfolding C.both
result_both mk m₁ m₂ = result_bind m₁ _ ∙ result_bind m₂ _

result_names : {A : Type 0} (l : List ℤ) (m : Comp A) → result (names l m) ≡ result m
unfolding names result
result_names [] m = refl
result_names (z ∷ l) m = result_names l m

pub result_judge : {A : Type 0} (p : Linear) (m : Comp A) → result (judge p m) ≡ result m
unfolding judge result
result_judge p m = result_names p.coeffs (named p.const m)

pub final_and_then : {A B : Type 0} (m : Ops A) (k : A → Ops B) → final (and_then m k) ≡ final (k (final m))
unfolding final and_then
final_and_then (end a) k = refl
final_and_then (operation h roots c f) k = final_and_then (f (result c)) k

-- ---- runs

unfoldable pub after : {A B : Type 0} → Out A → (A → List Tree → Out B) → Out B
after (done t X) f = f t X
after (stopped k) f = stopped k

after_if : {A B : Type 0} (b : Bool) (x y : Out A) (f : A → List Tree → Out B) → after (if b x y) f ≡ if b (after x f) (after y f)
after_if true x y f = refl
after_if false x y f = refl

pub run_bind : {A B : Type 0} (N : ℕ) (m : Comp A) (k : A → Comp B) (X : List Tree) → run N (bind m k) X ≡ after (run N m X) (λ t Y. run N (k t) Y)
unfolding run bind after
run_bind N (ret a) k X = refl
run_bind N (named z m) k X = ap (λ o. if (small z) o (stopped 11)) (run_bind N m k X) ∙ sym (after_if (small z) (run N m X) (stopped 11) (λ t Y. run N (k t) Y))
run_bind N (made t m) k X =
    ap₂ (λ o p. if (member t X) o (if (ltb (length X) N) p (stopped 12))) (run_bind N m k X) (run_bind N m k (X ++ (t ∷ [])))
    ∙ (ap (λ o. if (member t X) (after (run N m X) (λ t Y. run N (k t) Y)) o) (sym (after_if (ltb (length X) N) (run N m (X ++ (t ∷ []))) (stopped 12) (λ t Y. run N (k t) Y)))
    ∙ sym (after_if (member t X) (run N m X) (if (ltb (length X) N) (run N m (X ++ (t ∷ []))) (stopped 12)) (λ t Y. run N (k t) Y)))

if_and : {A : Type 0} (a b : Bool) (x y : A) → if a (if b x y) y ≡ if (a && b) x y
if_and true b x y = refl
if_and false b x y = refl

run_names : {A : Type 0} (N : ℕ) (l : List ℤ) (m : Comp A) (X : List Tree) → run N (names l m) X ≡ if (all small l) (run N m X) (stopped 11)
unfolding names run all
run_names N [] m X = refl
run_names N (z ∷ l) m X = ap (λ o. if (small z) o (stopped 11)) (run_names N l m X) ∙ if_and (small z) (all small l) (run N m X) (stopped 11)

-- 11 where one of them is beyond the limits, and else what follows
pub run_judge : {A : Type 0} (N : ℕ) (p : Linear) (m : Comp A) (X : List Tree) → run N (judge p m) X ≡ if (small_linear p) (run N m X) (stopped 11)
unfolding judge run small_linear
run_judge N p m X = run_names N p.coeffs (named p.const m) X ∙ if_and (all small p.coeffs) (small p.const) (run N m X) (stopped 11)

-- ---- membership

if_true : (b c : Bool) → c ≡ true → if b true c ≡ true
if_true true c e = refl
if_true false c e = e

pub member_append : (u : Tree) (X Y : List Tree) → member u X ≡ true → member u (X ++ Y) ≡ true
unfolding member
member_append u [] Y e = clash (sym e)
member_append u (x ∷ X) Y e = go (same x u) e (member_append u X Y)
  where
    go : (b : Bool) → if b true (member u X) ≡ true → (member u X ≡ true → member u (X ++ Y) ≡ true) → if b true (member u (X ++ Y)) ≡ true
    go true e ih = refl
    go false e ih = ih e

-- a member of a table with one more is a member of the table or that one
pub member_cases : (u v : Tree) (X : List Tree) → member u (X ++ (v ∷ [])) ≡ true → (member u X ≡ true) ⊎ (v ≡ u)
unfolding member
member_cases u v [] = by_test (same v u) (λ b. if b true false ≡ true → (false ≡ true) ⊎ (v ≡ u)) (λ s _. inr (same_eq v u s)) (λ _ e. inl e)
member_cases u v (x ∷ X) = go (same x u) (member_cases u v X)
  where
    go : (b : Bool) → (member u (X ++ (v ∷ [])) ≡ true → (member u X ≡ true) ⊎ (v ≡ u)) → if b true (member u (X ++ (v ∷ []))) ≡ true → (if b true (member u X) ≡ true) ⊎ (v ≡ u)
    go true ih e = inl refl
    go false ih e = ih e

pub member_more : (u v : Tree) (X : List Tree) → member u X ≡ true → member u (X ++ (v ∷ [])) ≡ true
member_more u v X = member_append u X (v ∷ [])

pub member_last : (v : Tree) (X : List Tree) → member v (X ++ (v ∷ [])) ≡ true
unfolding member
member_last v [] = ap (λ (b : Bool). if b true false) (same_refl v)
member_last v (x ∷ X) = if_true (same x v) _ (member_last v X)

pub member_in : (d t : Tree) (X : List Tree) (i : ℕ) → i < length X → get_or X i d ≡ t → member t X ≡ true
unfolding member
member_in d t [] i h e = absurd (omega arith)
member_in d t (x ∷ X) zero h e = ap (λ (b : Bool). if b true (member t X)) (ap (λ (z : Tree). same z t) e ∙ same_refl t)
member_in d t (x ∷ X) (suc i) h e = if_true (same x t) _ (member_in d t X i (omega arith) e)

pub member_out : (d t : Tree) (X : List Tree) → ((i : ℕ) → i < length X → get_or X i d ≡ t → ⊥) → member t X ≡ false
unfolding member
member_out d t [] h = refl
member_out d t (x ∷ X) h = ap (λ (b : Bool). if b true (member t X)) (same_not x t (h 0 (omega arith))) ∙ member_out d t X (λ i q. h (suc i) (omega arith))

pub member_find : (d u : Tree) (X : List Tree) → member u X ≡ true → (i : ℕ) × (i < length X) × (get_or X i d ≡ u)
unfolding member
member_find d u [] e = clash (sym e)
member_find d u (x ∷ X) e = go (same x u) refl e (member_find d u X)
  where
    go : (b : Bool) → same x u ≡ b → if b true (member u X) ≡ true → (member u X ≡ true → (i : ℕ) × (i < length X) × (get_or X i d ≡ u))
        → (i : ℕ) × (i < length (x ∷ X)) × (get_or (x ∷ X) i d ≡ u)
    go true c e ih = (0, omega arith, same_eq x u (from_true c))
    go false c e ih = let p = ih e in (suc p.0, (let q = p.1 in omega arith), p.2)

-- ---- a run that is done

pub ret_done : {A : Type 0} (N : ℕ) (b : A) (X Z : List Tree) (a : A) → run N (ret b) X ≡ done a Z → (b ≡ a) × (X ≡ Z)
unfolding run
ret_done N b X Z a e = (cc, cc)

-- how it was done, one event on
pub named_done : {A : Type 0} (N : ℕ) (z : ℤ) (m : Comp A) (X Z : List Tree) (a : A) → run N (named z m) X ≡ done a Z → (small z ≡ true) × (run N m X ≡ done a Z)
unfolding run
named_done {A} N z m X Z a = go (small z)
  where
    go : (b : Bool) → if b (run N m X) (stopped 11) ≡ done a Z → (b ≡ true) × (run N m X ≡ done a Z)
    go true e = (refl, e)
    go false e = absurd (let z : ◌≡◌ {A = ℕ} 0 1 = cc in omega arith)

-- the nodes with one that is made
unfoldable pub with_made : Tree → List Tree → List Tree
with_made t X = if (member t X) X (X ++ (t ∷ []))

pub made_done : {A : Type 0} (N : ℕ) (t : Tree) (m : Comp A) (X Z : List Tree) (a : A) → run N (made t m) X ≡ done a Z → run N m (with_made t X) ≡ done a Z
unfolding run with_made
made_done {A} N t m X Z a = go (member t X) (ltb (length X) N)
  where
    go : (b c : Bool) → if b (run N m X) (if c (run N m (X ++ (t ∷ []))) (stopped 12)) ≡ done a Z → run N m (if b X (X ++ (t ∷ []))) ≡ done a Z
    go true c e = e
    go false true e = e
    go false false e = absurd (let z : ◌≡◌ {A = ℕ} 0 1 = cc in omega arith)

pub with_made_more : (t u : Tree) (X : List Tree) → member u X ≡ true → member u (with_made t X) ≡ true
unfolding with_made
with_made_more t u X h = by_test (member t X) (λ b. member u (if b X (X ++ (t ∷ []))) ≡ true) (λ _. h) (λ _. member_more u t X h)

pub with_made_in : (t : Tree) (X : List Tree) → member t (with_made t X) ≡ true
unfolding with_made
with_made_in t X = go (member t X) refl
  where
    go : (b : Bool) → member t X ≡ b → member t (if b X (X ++ (t ∷ []))) ≡ true
    go true e = e
    go false e = member_last t X

pub run_keeps : {A : Type 0} (N : ℕ) (m : Comp A) (X Z : List Tree) (a : A) (u : Tree) → run N m X ≡ done a Z → member u X ≡ true → member u Z ≡ true
run_keeps N (ret b) X Z a u e h = rw (← (ret_done N b X Z a e).1) h
run_keeps N (named z m) X Z a u e h = run_keeps N m X Z a u (named_done N z m X Z a e).1 h
run_keeps N (made t m) X Z a u e h = run_keeps N m (with_made t X) Z a u (made_done N t m X Z a e) (with_made_more t u X h)

-- run again where all that it left is there: the same, nothing new, and no stop
pub rerun : {A : Type 0} (N : ℕ) (m : Comp A) (X Y Z : List Tree) (a : A) → run N m X ≡ done a Z → ((u : Tree) → member u Z ≡ true → member u Y ≡ true) → run N m Y ≡ done a Y
unfolding run
rerun N (ret b) X Y Z a e h = ap (λ b. done b Y) (ret_done N b X Z a e).0
rerun N (named z m) X Y Z a e h =
    let d = named_done N z m X Z a e in
    ap (λ (b : Bool). if b (run N m Y) (stopped 11)) d.0 ∙ rerun N m X Y Z a d.1 h
rerun N (made t m) X Y Z a e h =
    let d = made_done N t m X Z a e in
    ap (λ (b : Bool). if b (run N m Y) (if (ltb (length Y) N) (run N m (Y ++ (t ∷ []))) (stopped 12))) (h t (run_keeps N m (with_made t X) Z a t d (with_made_in t X)))
    ∙ rerun N m (with_made t X) Y Z a d h

-- what it is done with is what the computation comes to
pub run_result : {A : Type 0} (N : ℕ) (m : Comp A) (X Y : List Tree) (a : A) → run N m X ≡ done a Y → a ≡ result m
unfolding result
run_result N (ret b) X Y a e = sym (ret_done N b X Y a e).0
run_result N (named z m) X Y a e = run_result N m X Y a (named_done N z m X Y a e).1
run_result N (made t m) X Y a e = run_result N m (with_made t X) Y a (made_done N t m X Y a e)

pub run_all_final : {A : Type 0} (N p : ℕ) (m : Ops A) (a : A) (q : ℕ) → run_all N p m ≡ solved a q → a ≡ final m
unfolding run_all final
run_all_final N p (end b) a q e = cc
run_all_final N p (operation h roots c f) a q e = go (run N c (enter_all roots [])) refl e (λ r t. run_all_final N r (f t) a q)
  where
    go : (o : Out Tree) → run N c (enter_all roots []) ≡ o → elim o [ done t X ↦ run_all N (max p (length X)) (f t) | stopped r ↦ refused r h.stage ] ≡ solved a q
        → ((r : ℕ) (t : Tree) → run_all N r (f t) ≡ solved a q → a ≡ final (f t)) → a ≡ final (f (result c))
    go (done t X) r e ih = ih (max p (length X)) t e ∙ ap (λ (t : Tree). final (f t)) (run_result N c (enter_all roots []) X t r)
    go (stopped r) s e ih = absurd (let z : ◌≡◌ {A = ℕ} 0 1 = cc in omega arith)
