-- The pass over an accepted model comes to the leaf that the slot's loaded diagram comes to.
use mathlib.Core.Path.{◌≡◌, refl, sym, ap, ◌∙◌, subst}
use mathlib.Core.Bool.{Bool, true, false, not, ◌&&◌}
use mathlib.Core.List.{List, [], ◌∷◌}
use Prim.Native.Nat.{ℕ, zero, suc, ◌+◌, ◌-◌, ◌≤◌, ◌<◌}
use native.Mathlib.Omega.{arith}
use borrow.Author.Tests.{lt-ltb}
use lib.Dec.{T, compare_is_eq, eqb, eqb→eq, leb→le, nleb→lt, nltb→le, T_not}
use lib.IntN.{ℤ, pos}
use lib.ListN.{length, get_or, drop}
use lib.Signed.{le_z}
use Rattle.whole.specs.Cases.{if, by_test, by_eq, both, not_not, is_true, from_true, clash}
use Rattle.theory.specs.Widths.{stack_most, conditions_most}
use Rattle.theory.specs.Form.{new_form, site_byte, action_bytes}
use Rattle.theory.specs.Diagram.{Test, no_coeffs, zero_linear, Leaf, plain, lin_of, Tree, leaf, cmp_ℤ, zeros, test_of}
use Rattle.theory.specs.Computation.{ret, bind, make, result}
use Rattle.theory.specs.Rules.{choose, zero_leaf, none_leaf}
use Rattle.theory.specs.Meaning.{State, Env, env, at}
use Rattle.theory.specs.Valid.{among, wide}
use Rattle.theory.specs.Command.{Command, site, push_leaf, push_condition, push_test, push_forbidden, name_action, end_model, Read, whole, Placed, byte_at}
use Rattle.theory.specs.Command.{width, command_at, read_at, goes_on, readings_from, readings, give, Slot, command_in, readings_from_in, readings_in}
use Rattle.theory.specs.Command.{action_at}
use Rattle.theory.specs.Verdict.{Site, site_of, Facts, Progress, name_slot, same_slot, has_slot, or, Rule, rule, first_broken, beyond, next_condition, joined}
use Rattle.theory.specs.Verdict.{site_rules, first_rules, later_rules, after, Verdict, refusal, ended, judged, at_start, verdict, judged_in, rules_in}
use Rattle.theory.specs.Verdict.{verdict_in}
use Rattle.theory.specs.Load.{Entry, Loaded, condition_test, load_choice, load_choice_with, load_entry, load_one, load_one_with, load_on, load_on_with, find_slot, site_at, site_in}
use Rattle.theory.proofs.laws.Comps.{result_bind}
use Rattle.theory.proofs.laws.AcceptedModel.{by_reading, behind, accepted, linear_wide}
use Rattle.theory.specs.Load.{loaded_entries}
use Rattle.model_stack.specs.Held.{pushed}
use Rattle.plain_pass.specs.declared.Point.{Point}
use Rattle.plain_pass.specs.Pass.{no_name, leaf_of, numerator, condition_holds, chosen, stepped, takes, pass, StateStands, LeafAt, LeafComes}
use Rattle.plain_pass.proofs.Points.{Sides, condition_sides, test_sides}

-- ---- what a command of the bytes has for operands

unfoldable pub Fit : List ℕ → ℕ → Command → Type 0
Fit B i (site m n a w) = site_of m n a w ≡ site_of (byte_at B (i + 1)) (byte_at B (i + 2)) (action_at new_form B (i + 3)) (byte_at B (i + (3 + action_bytes new_form)))
Fit B i (push_leaf p) = T (wide p)
Fit B i (push_condition k) = T true
Fit B i (push_test p) = T (wide p)
Fit B i push_forbidden = T true
Fit B i (give h) = T true
Fit B i (name_action a b) = T true
Fit B i end_model = T true

fit_if : (B : List ℕ) (i : ℕ) (b : Bool) (c d : Command) → Fit B i c → Fit B i d → Fit B i (if b c d)
fit_if B i true c d f g = f
fit_if B i false c d f g = g

pub fit : (B : List ℕ) (i : ℕ) → Fit B i (command_at B i)
unfolding command_in Fit
fit B i =
    fit_if B i (eqb (byte_at B i) (site_byte new_form)) _ _ refl (fit_if B i (eqb (byte_at B i) 0x10) _ _ (linear_wide B (i + 1)) (fit_if B i (eqb (byte_at B i) 0x11) _ _ tt
    (fit_if B i (eqb (byte_at B i) 0x12) _ _ (linear_wide B (i + 1)) (fit_if B i (eqb (byte_at B i) 0x13) _ _ tt (fit_if B i (eqb (byte_at B i) 0x20) _ _ tt (fit_if B i (eqb (byte_at B i) 0x21) _ _ tt
    (fit_if B i (eqb (byte_at B i) 0x22) _ _ tt (fit_if B i (eqb (byte_at B i) 0x23) _ _ tt (fit_if B i (eqb (byte_at B i) 0x30) _ _ tt tt)))))))))

-- ---- slots

pub same_is : (g h : Slot) → T (same_slot g h) → g ≡ h
unfolding same_slot
same_is g h t =
    let d = both (eqb g.command h.command) (eqb g.action h.action && eqb g.index h.index) t in
    let f = both (eqb g.action h.action) (eqb g.index h.index) d.1 in
    λ i. record { command = eqb→eq g.command h.command d.0 i; action = eqb→eq g.action h.action f.0 i; index = eqb→eq g.index h.index f.1 i }

-- ---- rules that are not broken

unbroken : (k : ℕ) (b : Bool) (l : List Rule) → first_broken (rule (suc k) b ∷ l) ≡ 0 → T (not b) × (first_broken l ≡ 0)
unfolding first_broken
unbroken k true l e = absurd (omega arith)
unbroken k false l e = (tt, e)

pub broken : {A : Type 0} (k : ℕ) (l : List Rule) → first_broken (rule (suc k) true ∷ l) ≡ 0 → A
broken k l e = absurd (unbroken k true l e).0

pub judged_whole : (k i : ℕ) (v : Verdict) → (if (eqb k 0) v (refusal k i)).number ≡ 0 → (k ≡ 0) × (v.number ≡ 0)
judged_whole k i v = by_test (eqb k 0) (λ b. (if b v (refusal k i)).number ≡ 0 → (k ≡ 0) × (v.number ≡ 0))
    (λ t e. (eqb→eq k 0 t, e)) (λ n e. absurd (T_not (eqb k 0) n (rw e tt)))

-- ---- stacks

pub pushed_room : (i : ℕ) (l : List ℕ) → length l < stack_most → pushed i l ≡ i ∷ l
unfolding pushed
pushed_room i l h = simp (lt-ltb (length l) stack_most h)

pub drop_one : {A : Type 0} (l : List A) → length (drop 1 l) ≡ length l - 1
drop_one [] = refl
drop_one (x ∷ l) = omega arith

joined_length : (b : Bool) (K : List Facts) → 2 ≤ length K → suc (length (joined b K)) ≡ length K
unfolding joined
joined_length b [] h = absurd (omega arith)
joined_length b (f ∷ []) h = absurd (omega arith)
joined_length b (f ∷ k ∷ K) h = refl

abbrev state : Site → List Facts → List Slot → Progress
state S K G = record { begun = true; site = S; stack = K; given = G }

abbrev loaded : List Tree → List Entry → Loaded
loaded X E = record { stack = X; entries = E }

abbrev pub placed : ℕ → Read → Placed
placed i r = record { at = i; read = r }

choice_entries : (t : Test) (X : List Tree) (E : List Entry) → (result (load_choice t X E)).entries ≡ E
unfolding load_choice_with result
choice_entries t [] E = refl
choice_entries t (L ∷ []) E = refl
choice_entries t (L ∷ H ∷ X) E = ap (λ (s : Loaded). s.entries) (result_bind (choose t H L) _)

drop_zeros : (m : ℕ) (l : List ℤ) → T (zeros l) → T (zeros (drop m l))
unfolding zeros
drop_zeros zero l t = t
drop_zeros (suc m) [] t = tt
drop_zeros (suc m) (z ∷ l) t = drop_zeros m l (both (compare_is_eq (cmp_ℤ z (pos 0))) (zeros l) t).1

no_beyond : (m : ℕ) → T (not (beyond m zero_linear))
unfolding beyond zeros no_coeffs
no_beyond m = let z = is_true (zeros (drop m zero_linear.coeffs)) (drop_zeros m zero_linear.coeffs tt) in rw z tt

module _ (B : List ℕ) (S : Site) (x : Point) (g : Slot) (s : State) (r : List Bool) (st : StateStands S.levels S.conditions x s r) (few : S.conditions ≤ 4) (given : T (no_name g))
    (first : leaf_of (read_at B 0) ≡ plain zero_linear) where
  abbrev m : ℕ
  m = S.levels

  abbrev e : Env
  e = env s r

  -- ---- a slot that is given keeps its diagram

  abbrev Stays : List Placed → Type 0
  Stays ys = (K : List Facts) (G : List Slot) (X : List Tree) (E : List Entry) → has_slot g G ≡ true → (judged (length B) (state S K G) ys).number ≡ 0
      → find_slot g (result (load_on ys (loaded X E))).entries ≡ find_slot g E

  has_more : (h : Slot) (G : List Slot) → has_slot g G ≡ true → has_slot g (h ∷ G) ≡ true
  unfolding has_slot
  has_more h G q = by_test (same_slot g h) (λ b. or b (has_slot g G) ≡ true) (λ _. refl) (λ _. q)

  entry_stays : (h : Slot) (G : List Slot) (X : List Tree) (E : List Entry) → has_slot g G ≡ true → T (not (has_slot h G)) → find_slot g (result (load_entry h X E)).entries ≡ find_slot g E
  unfolding load_entry result find_slot
  entry_stays h G [] E q n = refl
  entry_stays h G (t ∷ X) E q n = by_test (same_slot g h) (λ b. if b t (find_slot g E) ≡ find_slot g E)
      (λ y. absurd (T_not (has_slot h G) n (subst (λ (z : Slot). T (has_slot z G)) (same_is g h y) (from_true q)))) (λ _. refl)

  module _ (i : ℕ) (ys : List Placed) (ih : Stays ys) where
    -- after a command that keeps what is found
    stays_on : (c : Command) (K : List Facts) (G : List Slot) (X : List Tree) (E : List Entry) → has_slot g G ≡ true → (judged (length B) (state S K G) ys).number ≡ 0
        → find_slot g (result (load_one c (loaded X E))).entries ≡ find_slot g E → (Y : List Tree) (F : List Entry) → result (load_one c (loaded Y F)) ≡ result (load_one c (loaded X E))
        → find_slot g (result (bind (load_one c (loaded Y F)) (load_on ys))).entries ≡ find_slot g E
    stays_on c K G X E q j k Y F z =
        ap (λ (a : Loaded). find_slot g a.entries) (result_bind (load_one c (loaded Y F)) (load_on ys)) ∙ (rw z (ih K G (result (load_one c (loaded X E))).stack (result (load_one c (loaded X E))).entries q j ∙ k))

    stays_step : (c : Command) → goes_on (whole c) ≡ true → Stays (placed i (whole c) ∷ ys)
    unfolding judged_in load_on_with rules_in later_rules ended after goes_on load_one_with make bind result
    stays_step (site m n a w) w' K G X E q j = broken 0 _ (judged_whole (first_broken (rule 1 true ∷ [])) i _ j).0
    stays_step (push_leaf p) w K G X E q j = ih _ G _ E q (judged_whole (first_broken (later_rules S K G (push_leaf p))) i _ j).1
    stays_step (push_condition k) w K G X E q j =
        stays_on (push_condition k) _ G X E q (judged_whole (first_broken (later_rules S K G (push_condition k))) i _ j).1 (ap (find_slot g) (choice_entries (condition_test k) X E)) X E refl
    stays_step (push_test p) w K G X E q j =
        stays_on (push_test p) _ G X E q (judged_whole (first_broken (later_rules S K G (push_test p))) i _ j).1 (ap (find_slot g) (choice_entries (test_of p) X E)) X E refl
    stays_step push_forbidden w K G X E q j = ih _ G _ E q (judged_whole (first_broken (later_rules S K G push_forbidden)) i _ j).1
    stays_step (give h) w K G X E q j =
        let d = judged_whole (first_broken (later_rules S K G (give h))) i _ j in
        let u = unbroken 3 _ _ d.0 in
        let v = unbroken 4 _ _ u.1 in
        stays_on (give h) _ (h ∷ G) X E (has_more h G q) d.1 (entry_stays h G X E q (unbroken 5 _ _ v.1).0) X E refl
    stays_step (name_action a b) w K G X E q j = ih K (name_slot a ∷ G) X E (has_more (name_slot a) G q) (judged_whole (first_broken (later_rules S K G (name_action a b))) i _ j).1
    stays_step end_model w K G X E q j = clash (sym w)

  stays_end : (i : ℕ) → Stays (placed i (whole end_model) ∷ [])
  unfolding load_on_with load_one_with bind result
  stays_end i K G X E q j = refl

  -- ---- each offset on the stack is the leaf that its diagram comes to

  Agree : List ℕ → List Tree → Type 0
  Agree [] [] = T true
  Agree [] (t ∷ X) = T false
  Agree (o ∷ l) [] = T false
  Agree (o ∷ l) (t ∷ X) = LeafAt B m o (at e t) × Agree l X

  pick : (b : Bool) (high low : ℕ) (H L : Leaf) → LeafAt B m high H → LeafAt B m low L → LeafAt B m (if b high low) (if b H L)
  pick true high low H L u v = u
  pick false high low H L u v = v

  agree_chosen : (t : Test) (b : Bool) (E : List Entry) → Sides st t b → (l : List ℕ) (X : List Tree) → 2 ≤ length l → Agree l X
      → Agree (chosen b l) (result (load_choice t X E)).stack × (suc (length (chosen b l)) ≡ length l)
  unfolding Agree load_choice_with result chosen
  agree_chosen t b E y [] X h a = absurd (omega arith)
  agree_chosen t b E y (o ∷ []) X h a = absurd (omega arith)
  agree_chosen t b E y (o ∷ o' ∷ l) [] h a = absurd a
  agree_chosen t b E y (o ∷ o' ∷ l) (L ∷ []) h a = absurd a.1
  agree_chosen t b E y (o ∷ o' ∷ l) (L ∷ H ∷ X) h a =
      let q = result_bind (choose t H L) (λ r. ret (loaded (r ∷ X) E)) in (
        subst (λ (z : Loaded). Agree (if b o' o ∷ l) z.stack) (sym q)
            (subst (λ (z : Leaf). LeafAt B m (if b o' o) z) (sym (y H L)) (pick b o' o (at e H) (at e L) a.1.0 a.0), a.1.1),
        refl,
      )

  abbrev Reach : List Placed → Type 0
  Reach ys = (K : List Facts) (G : List Slot) (X : List Tree) (E : List Entry) (l : List ℕ) → Agree l X → length K ≡ length l → length K ≤ stack_most → has_slot g G ≡ false → find_slot g E ≡ zero_leaf
      → (judged (length B) (state S K G) ys).number ≡ 0 → LeafAt B m (pass x g ys l) (at e (find_slot g (result (load_on ys (loaded X E))).entries))

  module _ (i : ℕ) (ys : List Placed) (ih : Reach ys) (keeps : Stays ys) where
    took : (h : Slot) (K : List Facts) (G : List Slot) (X : List Tree) (E : List Entry) (l : List ℕ) → Agree l X → length K ≡ length l → length K ≤ stack_most → 1 ≤ length K → has_slot g G ≡ false → find_slot g E ≡ zero_leaf
        → (judged (length B) (state S (drop 1 K) (h ∷ G)) ys).number ≡ 0
        → LeafAt B m (if (same_slot g h) (get_or l 0 0) (pass x g ys (drop 1 l))) (at e (find_slot g (result (load_on ys (result (load_entry h X E)))).entries))
    unfolding Agree load_entry result has_slot find_slot
    took h K G X E [] a q z n f v j = absurd (omega arith)
    took h K G [] E (o ∷ l) a q z n f v j = absurd a
    took h K G (t ∷ X) E (o ∷ l) a q z n f v j = by_eq (same_slot g h)
        (λ b. LeafAt B m (if b o (pass x g ys l)) (at e (find_slot g (result (load_on ys (loaded X (record { slot = h; tree = t } ∷ E)))).entries)))
        (λ y. subst (λ (F : Tree). LeafAt B m o (at e F))
        (sym (keeps (drop 1 K) (h ∷ G) X (record { slot = h; tree = t } ∷ E) (ap (λ (b : Bool). or b (has_slot g G)) y) j ∙ ap (λ (b : Bool). if b t (find_slot g E)) y)) a.0)
        (λ y. ih (drop 1 K) (h ∷ G) X (record { slot = h; tree = t } ∷ E) l a.1 (omega (arith, drop_one K)) (omega (arith, drop_one K)) (ap (λ (b : Bool). or b (has_slot g G)) y ∙ f) (ap (λ (b : Bool). if b t (find_slot g E)) y ∙ v) j)

    choose_on : (t : Test) (b : Bool) (K K' : List Facts) (G : List Slot) (X : List Tree) (E : List Entry) (l : List ℕ) → Sides st t b → Agree l X → length K ≡ length l → length K ≤ stack_most → 2 ≤ length K
        → suc (length K') ≡ length K → has_slot g G ≡ false → find_slot g E ≡ zero_leaf → (judged (length B) (state S K' G) ys).number ≡ 0
        → LeafAt B m (pass x g ys (chosen b l)) (at e (find_slot g (result (bind (load_choice t X E) (load_on ys))).entries))
    choose_on t b K K' G X E l y a q z n n' f v j =
        let d = agree_chosen t b E y l X (omega arith) a in
        let c = result (load_choice t X E) in
        let k = d.1 in
        rw (result_bind (load_choice t X E) (load_on ys)) (ih K' G c.stack c.entries (chosen b l) d.0 (omega arith) (omega arith) f (ap (find_slot g) (choice_entries t X E) ∙ v) j)

    reach_step : (c : Command) → read_at B i ≡ whole c → goes_on (whole c) ≡ true → Reach (placed i (whole c) ∷ ys)
    unfolding Agree judged_in load_on_with rules_in later_rules ended after goes_on load_one_with make bind result pass takes stepped at has_slot leaf_of lin_of
    reach_step (site m n a w) o w' K G X E l y q z f e₀ j = broken 0 _ (judged_whole (first_broken (rule 1 true ∷ [])) i _ j).0
    reach_step (push_leaf p) o w K G X E l y q z f e₀ j =
        let d = judged_whole (first_broken (later_rules S K G (push_leaf p))) i _ j in
        let u = unbroken 3 _ _ d.0 in
        let v = nleb→lt stack_most (length K) (unbroken 4 _ _ u.1).0 in
        rw (pushed_room i l (omega arith)) (ih _ G (leaf (plain p) ∷ X) E (i ∷ l) (record { reads = ap leaf_of o; within = u.0 }, y) (ap suc q) v f e₀ d.1)
    reach_step push_forbidden o w K G X E l y q z f e₀ j =
        let d = judged_whole (first_broken (later_rules S K G push_forbidden)) i _ j in
        let v = nleb→lt stack_most (length K) (unbroken 4 _ _ d.0).0 in
        rw (pushed_room i l (omega arith)) (ih _ G (none_leaf ∷ X) E (i ∷ l) (record { reads = ap leaf_of o; within = no_beyond m }, y) (ap suc q) v f e₀ d.1)
    reach_step (push_condition k) o w K G X E l y q z f e₀ j =
        let d = judged_whole (first_broken (later_rules S K G (push_condition k))) i _ j in
        let u = unbroken 3 _ _ d.0 in
        let n = nltb→le (length K) 2 (unbroken 4 _ _ u.1).0 in
        choose_on (condition_test k) (condition_holds x k) K _ G X E l (condition_sides st k few (not_not (or (among S.conditions k) (next_condition S.conditions k)) u.0))
        y q z n (joined_length _ K n) f e₀ d.1
    reach_step (push_test p) o w K G X E l y q z f e₀ j =
        let d = judged_whole (first_broken (later_rules S K G (push_test p))) i _ j in
        let u = unbroken 3 _ _ d.0 in
        let v = unbroken 3 _ _ u.1 in
        let n = nltb→le (length K) 2 (unbroken 4 _ _ v.1).0 in
        choose_on (test_of p) (le_z (numerator x p) (pos 0)) K _ G X E l (test_sides st p (by_eq (zeros p.coeffs) (λ b. T (not b) → b ≡ false) (λ _ t. absurd t) (λ _ t. refl) v.0) u.0)
        y q z n (joined_length _ K n) f e₀ d.1
    reach_step (give h) o w K G X E l y q z f e₀ j =
        let d = judged_whole (first_broken (later_rules S K G (give h))) i _ j in
        let u = unbroken 3 _ _ d.0 in
        rw (result_bind (load_entry h X E) (load_on ys)) (took h K G X E l y q z (nltb→le (length K) 1 (unbroken 4 _ _ u.1).0) f e₀ d.1)
    reach_step (name_action a b) o w K G X E l y q z f e₀ j =
        ih K (name_slot a ∷ G) X E l y q z (other_name a G f) e₀ (judged_whole (first_broken (later_rules S K G (name_action a b))) i _ j).1
      where
        other_name : (a : ℕ) (G : List Slot) → has_slot g G ≡ false → or (same_slot g (name_slot a)) (has_slot g G) ≡ false
        other_name a G f = by_test (same_slot g (name_slot a)) (λ b. or b (has_slot g G) ≡ false)
            (λ t. absurd (subst (λ (h : Slot). T (no_name h)) (same_is g (name_slot a) t) given)) (λ _. f)
    reach_step end_model o w K G X E l y q z f e₀ j = clash (sym w)

  -- a slot that is not given: the site, which stands first, is no leaf
  reach_end : (i : ℕ) → Reach (placed i (whole end_model) ∷ [])
  unfolding load_on_with load_one_with bind result pass takes at zero_leaf lin_of
  reach_end i K G X E l y q z f e₀ j = subst (λ (F : Tree). LeafAt B m 0 (at e F)) (sym e₀) (record { reads = first; within = no_beyond m })

  -- ---- all commands, by offset

  abbrev Both : List Placed → Type 0
  Both ys = Reach ys × Stays ys

  cut : (k : ℕ) {C : Type 0} → suc k ≡ 0 → C
  cut k q = absurd (omega arith)

  ends : (i : ℕ) (c : Command) → goes_on (whole c) ≡ false → Both (placed i (whole c) ∷ [])
  unfolding goes_on
  ends i (site m n a w) q = clash q
  ends i (push_leaf p) q = clash q
  ends i (push_condition k) q = clash q
  ends i (push_test p) q = clash q
  ends i push_forbidden q = clash q
  ends i (give h) q = clash q
  ends i (name_action a b) q = clash q
  ends i end_model q = (reach_end i, stays_end i)

  one_reading : (k i : ℕ) (c : Command) → read_at B i ≡ whole c → Both (behind B k i true) → Both (placed i (whole c) ∷ behind B k i (goes_on (whole c)))
  one_reading k i c o ih = by_eq (goes_on (whole c)) (λ b. Both (placed i (whole c) ∷ behind B k i b))
      (λ q. (reach_step i _ ih.0 ih.1 c o q, stays_step i _ ih.1 c q)) (λ q. ends i c q)

  -- fuel for each byte that is left is enough
  both_from : (k i : ℕ) → i ≤ length B → length B < i + k → Both (readings_from B k i)
  unfolding readings_from_in judged_in
  both_from zero i h n = absurd (omega arith)
  both_from (suc k) i h n = by_reading B i (λ r. read_at B i ≡ r → Both (placed i r ∷ behind B k i (goes_on r)))
      (λ _. (λ K G X E l y q z f v j. cut 1 j, λ K G X E q j. cut 1 j)) (λ _ _. (λ K G X E l y q z f v j. cut 2 j, λ K G X E q j. cut 2 j))
      (λ w u o. one_reading k i (command_at B i) o (both_from k (i + width (byte_at B i)) u (omega arith))) refl

-- ---- an accepted model

module _ (B : List ℕ) (x : Point) (g : Slot) (s : State) (r : List Bool) (st : StateStands (site_at B).levels (site_at B).conditions x s r) (few : (site_at B).conditions ≤ 4) (given : T (no_name g)) where
  abbrev Begins : List Placed → Type 0
  Begins ys = (judged (length B) at_start ys).number ≡ 0 → LeafAt B (site_at B).levels (pass x g ys []) (at (env s r) (find_slot g (result (load_on ys (loaded [] []))).entries))

  first_command : 0 + width (byte_at B 0) ≤ length B → 1 ≤ width (byte_at B 0) → (c : Command) → read_at B 0 ≡ whole c → Fit B 0 c → Begins (placed 0 (whole c) ∷ behind B (length B) 0 (goes_on (whole c)))
  unfolding judged_in load_on_with goes_on rules_in first_rules ended load_one_with bind result after Fit Agree pass takes stepped has_slot find_slot leaf_of site_in
  first_command h n (site m k a w) o f j =
      let d = judged_whole (first_broken (site_rules new_form (site_of m k a w))) 0 _ j in
      (both_from B (site_at B) x g s r st few given (ap leaf_of o) (length B) (0 + width (byte_at B 0)) h (omega arith)).0 [] [] [] [] [] tt refl (omega arith) refl refl
      (subst (λ (S : Site). (judged (length B) (state S [] []) (behind B (length B) 0 true)).number ≡ 0) f d.1)
  first_command h n (push_leaf p) o f j = broken 0 _ (judged_whole (first_broken (rule 1 true ∷ [])) 0 _ j).0
  first_command h n (push_condition k) o f j = broken 0 _ (judged_whole (first_broken (rule 1 true ∷ [])) 0 _ j).0
  first_command h n (push_test p) o f j = broken 0 _ (judged_whole (first_broken (rule 1 true ∷ [])) 0 _ j).0
  first_command h n push_forbidden o f j = broken 0 _ (judged_whole (first_broken (rule 1 true ∷ [])) 0 _ j).0
  first_command h n (give c) o f j = broken 0 _ (judged_whole (first_broken (rule 1 true ∷ [])) 0 _ j).0
  first_command h n (name_action a b) o f j = broken 0 _ (judged_whole (first_broken (rule 1 true ∷ [])) 0 _ j).0
  first_command h n end_model o f j = broken 0 _ (judged_whole (first_broken (rule 1 true ∷ [])) 0 _ j).0

  reached : (verdict B).number ≡ 0 → LeafAt B (site_at B).levels (pass x g (readings B) []) (at (env s r) (find_slot g (loaded_entries B)))
  unfolding verdict_in readings_in readings_from_in judged_in
  reached = by_reading B 0 (λ r. read_at B 0 ≡ r → Begins (placed 0 r ∷ behind B (length B) 0 (goes_on r)))
      (λ _ j. absurd (let z : ◌≡◌ {A = ℕ} 2 0 = j in omega arith)) (λ _ _ j. absurd (let z : ◌≡◌ {A = ℕ} 3 0 = j in omega arith)) (λ w h o. first_command h w (command_at B 0) o (fit B 0)) refl

-- the pass over an accepted model
pub pass_comes : (B : List ℕ) (x : Point) (g : Slot) (i : ℕ) → (verdict B).number ≡ 0 → T (no_name g) → i ≡ pass x g (readings B) [] → LeafComes B g x i
pass_comes B x g i v w q = record {
  comes = λ s r st. subst (λ (o : ℕ). LeafAt B (site_at B).levels o (at (env s r) (find_slot g (loaded_entries B)))) (sym q)
      (reached B x g s r st (leb→le (site_at B).conditions conditions_most (accepted B v).0.conditions_in) w v);
}
