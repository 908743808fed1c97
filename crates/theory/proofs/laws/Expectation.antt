-- What substitution comes to at the next state, and the sum over the next step's conditions at a state: the mean over their settings.
use Rattle.std.specs.Prelude.{◌≡◌, not, ◌&&◌, eqb, ℤ, negsuc, ◌+ℤ◌, ◌-ℤ◌, ◌*ℤ◌, length, ◌≤ℤ◌}
use Rattle.std.proofs.Math.Path.{refl, sym, ap, ap₂, fun_ext}
use Rattle.std.proofs.Common.{◌∙◌, arith, eq-eqb, ne_eqb}
use Rattle.std.proofs.Math.Bool.{Bool, true, false}
use mathlib.Core.List.{List, [], ◌∷◌, map}
use Prim.Native.Nat.{ℕ, zero, suc, ◌+◌, ◌*◌, ◌-◌}
use Rattle.std.proofs.Math.Nat.{sub-zero}
use Rattle.std.proofs.Math.Dec.{T}
use Rattle.std.proofs.Math.IntN.{pos}
use Rattle.std.specs.Int.Signed.{le_z, le_z_yes}
use Rattle.whole.specs.Cases.{if, by_test, both}
use Rattle.whole.specs.Int.{up, diff, le_in}
use Rattle.theory.specs.Diagram.{Linear, Test, now, later, linear, Leaf, some, forbidden, lin_of, permitted, Tree, leaf, branch, zeros}
use Rattle.theory.specs.Computation.{result, make, final}
use Rattle.theory.specs.Computation as C
use Rattle.theory.specs.Rules.{node, choose, sum, product, scale, shift, complement, sum_on, levels_sum, linear_diagram, substitute, is_later, side}
use Rattle.theory.specs.Rules.{expectation}
use Rattle.theory.specs.Total.{Total, num, ◌⊕◌, weigh, mean}
use Rattle.theory.specs.Meaning.{State, Env, nth, env, dot, value, holds, at, leaf_worth, worth_at, level_at, doubled, settings, chance_at, weight, moved}
use Rattle.theory.specs.Stage.{sum_out}
use Rattle.theory.specs.Valid.{all, all_nodes, among, good_test, level_leaf, weight_leaf}
use Rattle.theory.proofs.laws.Total.{sums, ⊕_assoc, ⊕_zero, num-⊕, weigh-⊕, weigh_one, weigh_times, weigh_swap}
use Rattle.theory.proofs.laws.Comps.{result_bind}
use Rattle.theory.proofs.laws.Values.{node_at, choose_at, both_at, over_at, zero_at, number_level, sum_at, product_at, scale_level, shift_at, complement_at, decide_at}
use Rattle.theory.proofs.laws.Safe.{any, sure}
use Rattle.theory.proofs.laws.Nodes.{Tests, parts, widen, all_widen, any_closed, expectation_safe}
use Rattle.theory.proofs.laws.Valid.{level_permitted, open_test, open_now, open_next, open_none}

-- ---- leaves

-- the leaf that a good diagram comes to is good
pub at_good : (e : Env) (t? : Test → Bool) (f? : Leaf → Bool) (F : Tree) → T (all_nodes t? f? F) → T (f? (at e F))
unfolding all_nodes at
at_good e t? f? (leaf f) q = q
at_good e t? f? (branch t h l) q =
    let d = parts t? f? t h l q in
    by_test (holds e t) (λ b. T (f? (if b (at e h) (at e l)))) (λ _. at_good e t? f? h d.1.0) (λ _. at_good e t? f? l d.1.1)

-- each diagram comes to a leaf that is not forbidden
abbrev pub Permitted : Env → List Tree → Type 0
Permitted e Ds = T (all (λ D. permitted (at e D)) Ds)

-- and so do the next levels of an accepted model
pub levels_permitted : (e : Env) (t? : Test → Bool) (Ds : List Tree) → T (all (all_nodes t? level_leaf) Ds) → Permitted e Ds
levels_permitted e t? Ds q = all_widen (all_nodes t? level_leaf) (λ D. permitted (at e D)) (λ D g. level_permitted (at e D) (at_good e t? level_leaf D g)) Ds q

-- ---- substitution

module _ (e : Env) where
  sum_on_at : (F : Tree) (cs : List ℤ) (Ds : List Tree) → Permitted e Ds → worth_at e (result (sum_on F cs Ds)) ≡ worth_at e F ⊕ num (dot cs (map (level_at e) Ds))
  unfolding sum_on dot result all
  sum_on_at F [] Ds ok = sym (⊕_zero _)
  sum_on_at F (c ∷ cs) [] ok = sym (⊕_zero _)
  sum_on_at F (c ∷ cs) (D ∷ Ds) ok =
      let d = both (permitted (at e D)) (all (λ D. permitted (at e D)) Ds) ok in
      ap (worth_at e) (result_bind (scale c D) _ ∙ result_bind (sum F _) _) ∙ sum_on_at (result (sum F (result (scale c D)))) cs Ds d.1
      ∙ ap (λ z. z ⊕ num (dot cs (map (level_at e) Ds))) (sum_at e F _ ∙ ap (λ z. worth_at e F ⊕ z) (scale_level e c D d.0))
      ∙ ⊕_assoc (worth_at e F) (num (c *ℤ level_at e D)) (num (dot cs (map (level_at e) Ds)))
      ∙ ap (λ z. worth_at e F ⊕ z) (num-⊕ (c *ℤ level_at e D) (dot cs (map (level_at e) Ds)))

  levels_at : (cs : List ℤ) (Ds : List Tree) → Permitted e Ds → worth_at e (result (levels_sum cs Ds)) ≡ num (dot cs (map (level_at e) Ds))
  unfolding levels_sum dot result make all
  levels_at [] Ds ok = zero_at e
  levels_at (c ∷ cs) [] ok = zero_at e
  levels_at (c ∷ cs) (D ∷ Ds) ok =
      let d = both (permitted (at e D)) (all (λ D. permitted (at e D)) Ds) ok in
      ap (worth_at e) (result_bind (scale c D) _) ∙ sum_on_at _ cs Ds d.1 ∙ ap (λ z. z ⊕ num (dot cs (map (level_at e) Ds))) (scale_level e c D d.0)
      ∙ num-⊕ (c *ℤ level_at e D) (dot cs (map (level_at e) Ds))

module _ (s : State) (r : List Bool) (Ds : List Tree) (ok : Permitted (env s r) Ds) where
  -- the next state, with the next conditions at hand as those after it too
  abbrev next : Env
  next = env (moved s Ds r) r

  linear_at : (p : Linear) → worth_at (env s r) (result (linear_diagram Ds p)) ≡ num (value next p)
  unfolding linear_diagram value env moved
  linear_at p = ap (worth_at (env s r)) (result_bind (levels_sum p.coeffs Ds) (shift p.const))
      ∙ shift_at (env s r) p.const _ ∙ ap (λ z. num (z +ℤ p.const *ℤ pos s.den)) (number_level (env s r) _ _ (levels_at (env s r) p.coeffs Ds ok))

  -- a branch on tests that come to the same
  branch_at : (b c : Bool) (f g : Leaf) (h l : Tree) → b ≡ c → leaf_worth (env s r) f ≡ worth_at next h → leaf_worth (env s r) g ≡ worth_at next l
      → leaf_worth (env s r) (if b f g) ≡ leaf_worth next (if c (at next h) (at next l))
  unfolding worth_at
  branch_at b c f g h l q x y = rw q (by_test c (λ c. leaf_worth (env s r) (if c f g) ≡ leaf_worth next (if c (at next h) (at next l))) (λ _. x) (λ _. y))

  -- what is substituted comes to what the diagram does at the next state
  pub substitute_next : (F : Tree) → worth_at (env s r) (result (substitute Ds F)) ≡ worth_at next F
  unfolding substitute at holds worth_at leaf_worth level_at env moved make result
  substitute_next (leaf (some p a)) = linear_at p
  substitute_next (leaf forbidden) = refl
  substitute_next (branch (now k) h l) = ap (leaf_worth (env s r)) (both_at (env s r) choose (choose_at (env s r)) (later k) _ _)
      ∙ branch_at (nth r k) (nth r k) _ _ h l refl (substitute_next h) (substitute_next l)
  substitute_next (branch (later k) h l) = ap (leaf_worth (env s r)) (both_at (env s r) choose (choose_at (env s r)) (later k) _ _)
      ∙ branch_at (nth r k) (nth r k) _ _ h l refl (substitute_next h) (substitute_next l)
  substitute_next (branch (linear p) h l) =
      ap (worth_at (env s r)) (result_bind (linear_diagram Ds p) _ ∙ result_bind (substitute Ds h) _ ∙ result_bind (substitute Ds l) _)
      ∙ ap (leaf_worth (env s r)) (over_at (env s r) choose (choose_at (env s r)) _
      (λ f. if (le_z (value (env s r) (lin_of f)) (pos 0)) (at (env s r) (result (substitute Ds h))) (at (env s r) (result (substitute Ds l))))
      (λ f. decide_at (env s r) (lin_of f) _ _) (result (linear_diagram Ds p)))
      ∙ branch_at (le_z (level_at (env s r) (result (linear_diagram Ds p))) (pos 0)) (le_z (value next p) (pos 0)) _ _ h l
      (ap (λ z. le_z z (pos 0)) (number_level (env s r) (result (linear_diagram Ds p)) (value next p) (linear_at p))) (substitute_next h) (substitute_next l)

-- ---- which tests stand in a stage

-- conditions of this step among n, and linear tests
unfoldable pub now_test : ℕ → Test → Bool
now_test n (now k) = among n k
now_test n (later k) = false
now_test n (linear p) = true

-- ---- conditions of the next step

abbrev pub with_later : Env → (ℕ → Bool) → Env
with_later e f = record { is_now = e.is_now; is_later = f; nums = e.nums; den = e.den; D>0 = e.D>0 }

-- no leaf asks for them
later_worth : (e : Env) (g : ℕ → Bool) (f : Leaf) → leaf_worth e f ≡ leaf_worth (with_later e g) f
unfolding leaf_worth value
later_worth e g (some p a) = refl
later_worth e g forbidden = refl

-- condition k is b
unfoldable pub given : ℕ → Bool → (ℕ → Bool) → ℕ → Bool
given k b f j = if (eqb j k) b (f j)

-- the conditions from k on are those of a list
unfoldable pub given_all : ℕ → List Bool → (ℕ → Bool) → ℕ → Bool
given_all k [] f = f
given_all k (b ∷ r) f = given k b (given_all (suc k) r f)

module _ (e : Env) (b : Bool) (k : ℕ) where
  abbrev pub fixed : Env
  fixed = with_later e (given k b e.is_later)

  other_fixed : (t : Test) → T (not (is_later k t)) → holds e t ≡ holds fixed t
  unfolding holds is_later given value
  other_fixed (now j) q = refl
  other_fixed (later j) q = by_test (eqb j k) (λ c. T (not c) → e.is_later j ≡ if c b (e.is_later j)) (λ _ n. absurd n) (λ _ _. refl) q
  other_fixed (linear p) q = refl

  later_fixed : (t : Test) → T (is_later k t) → holds fixed t ≡ b
  unfolding holds is_later given
  later_fixed (now j) q = absurd q
  later_fixed (later j) q = by_test (eqb j k) (λ c. T c → if c b (e.is_later j) ≡ b) (λ _ _. refl) (λ _ n. absurd n) q
  later_fixed (linear p) q = absurd q

  side_leaf : (F : Tree) → at e (result (side b k F)) ≡ at fixed F
  unfolding side at result
  side_leaf (leaf f) = refl
  side_leaf (branch t h l) = by_test (is_later k t)
      (λ c. at e (result (elim c [ true ↦ if b (side b k h) (side b k l) | false ↦ C.both (node t) (side b k h) (side b k l) ])) ≡ if (holds fixed t) (at fixed h) (at fixed l))
      (λ q. rw (later_fixed t q) (by_test b (λ c. at e (result (if c (side b k h) (side b k l))) ≡ if c (at fixed h) (at fixed l)) (λ _. side_leaf h) (λ _. side_leaf l)))
      (λ q. both_at e node (node_at e) t _ _ ∙ rw (other_fixed t q) (ap₂ (if (holds fixed t)) (side_leaf h) (side_leaf l)))

  pub side_at : (F : Tree) → worth_at e (result (side b k F)) ≡ worth_at fixed F
  unfolding worth_at
  side_at F = ap (leaf_worth e) (side_leaf F) ∙ later_worth e (given k b e.is_later) (at fixed F)

-- a diagram without next_step conditions does not ask for them
pub free_at : (n : ℕ) (e : Env) (g : ℕ → Bool) (F : Tree) → Tests (now_test n) F → at e F ≡ at (with_later e g) F
unfolding at holds value now_test
free_at n e g (leaf f) q = refl
free_at n e g (branch (now k) h l) q =
    let d = parts (now_test n) (λ _. true) (now k) h l q in
    ap₂ (if (e.is_now k)) (free_at n e g h d.1.0) (free_at n e g l d.1.1)
free_at n e g (branch (later k) h l) q = absurd (parts (now_test n) (λ _. true) (later k) h l q).0
free_at n e g (branch (linear p) h l) q =
    let d = parts (now_test n) (λ _. true) (linear p) h l q in
    ap₂ (if (le_z (value e p) (pos 0))) (free_at n e g h d.1.0) (free_at n e g l d.1.1)

pub substitute_at : (n : ℕ) (s : State) (r : List Bool) (Ds : List Tree) → Permitted (env s r) Ds → (F : Tree) → Tests (now_test n) F
    → worth_at (env s r) (result (substitute Ds F)) ≡ worth_at (env (moved s Ds r) []) F
unfolding env worth_at
substitute_at n s r Ds ok F q = substitute_next s r Ds ok F ∙ ap (leaf_worth (env (moved s Ds r) r)) (free_at n (env (moved s Ds r) r) (nth []) F q)
    ∙ later_worth (env (moved s Ds r) r) (nth []) _

-- ---- chances

pos_up : (c : ℤ) → pos 0 ≤ℤ c → c ≡ pos (up c)
pos_up (pos n) h = refl
pos_up (negsuc n) h = absurd h.le

pos_rest : (W : ℕ) (c : ℤ) → pos 0 ≤ℤ c → c ≤ℤ pos W → pos W -ℤ c ≡ pos (W - up c)
pos_rest W (pos n) h k = simp diff (omega (arith, le_in (pos n) (pos W) k))
pos_rest W (negsuc n) h k = absurd h.le

-- the chances of an accepted model
abbrev pub AcceptedChance : ℕ → ℕ → Tree → Type 0
AcceptedChance n W w = T (all_nodes (good_test n false) (weight_leaf W) w)

pub good_now : (n : ℕ) (t : Test) → T (good_test n false t) → T (now_test n t)
unfolding good_test now_test
good_now n (now k) q = q
good_now n (later k) q = absurd q
good_now n (linear p) q = tt

module _ (n W : ℕ) (w : Tree) (ok : AcceptedChance n W w) where
  in_range : (e : Env) → (pos 0 ≤ℤ (lin_of (at e w)).const) × ((lin_of (at e w)).const ≤ℤ pos W)
  unfolding weight_leaf
  in_range e =
      let f = at e w in
      let d = (both (level_leaf f) (zeros (lin_of f).coeffs && (le_z (pos 0) (lin_of f).const && le_z (lin_of f).const (pos W))) (at_good e (good_test n false) (weight_leaf W) w ok)).1 in
      let c = both (le_z (pos 0) (lin_of f).const) (le_z (lin_of f).const (pos W)) (both (zeros (lin_of f).coeffs) _ d).1 in
      (le_z_yes c.0, le_z_yes c.1)

  chance_free : (e : Env) (g : ℕ → Bool) → chance_at (with_later e g) w ≡ chance_at e w
  unfolding chance_at
  chance_free e g = ap (λ (f : Leaf). up (lin_of f).const) (sym (free_at n e g w (widen (good_test n false) (now_test n) (weight_leaf W) any (good_now n) (λ _ _. tt) w ok)))

  pub expectation_at : (e : Env) (k : ℕ) (F : Tree)
      → worth_at e (result (expectation W w k F)) ≡ weigh (chance_at e w) (worth_at (fixed e true k) F) ⊕ weigh (W - chance_at e w) (worth_at (fixed e false k) F)
  unfolding expectation chance_at
  expectation_at e k F =
      ap (worth_at e) (result_bind (side true k F) _ ∙ result_bind (product w _) _ ∙ result_bind (complement W w) _ ∙ result_bind (side false k F) _ ∙ result_bind (product _ _) _)
      ∙ sum_at e _ _ ∙ ap₂ ◌⊕◌
      (product_at e _ w _ (pos_up _ (in_range e).0) ∙ ap (weigh _) (side_at e true k F))
      (product_at e _ _ _ (complement_at e W w ∙ pos_rest W _ (in_range e).0 (in_range e).1) ∙ ap (weigh _) (side_at e false k F))

-- ---- all conditions summed out

turned : (x y z : Total) → y ⊕ (x ⊕ z) ≡ x ⊕ y ⊕ z
turned x y z = simp sums

double_step : (a b v : ℕ) (x y m z : Total) → z ≡ m → weigh (b * v) y ⊕ (weigh (a * v) x ⊕ z) ≡ weigh v (weigh a x ⊕ weigh b y) ⊕ m
double_step a b v x y m z h =
    ap₂ ◌⊕◌ (weigh_times b v y ∙ weigh_swap b v y) (ap₂ ◌⊕◌ (weigh_times a v x ∙ weigh_swap a v x) h) ∙ turned _ _ m ∙ ap (λ t. t ⊕ m) (sym (weigh-⊕ v (weigh a x) (weigh b y)))

-- the mean over settings, the first condition apart
pub mean_doubled : (W w : ℕ) (ws : List ℕ) (f : List Bool → Total) (l : List (List Bool))
    → mean (weight W (w ∷ ws)) f (doubled l) ≡ mean (weight W ws) (λ r. weigh w (f (true ∷ r)) ⊕ weigh (W - w) (f (false ∷ r))) l
unfolding mean doubled weight
mean_doubled W w ws f [] = refl
mean_doubled W w ws f (r ∷ l) = double_step w (W - w) (weight W ws r) (f (true ∷ r)) (f (false ∷ r)) _ _ (mean_doubled W w ws f l)

one_term : (x : Total) → x ≡ weigh 1 x ⊕ num (pos 0)
one_term x = sym (⊕_zero _ ∙ weigh_one x)

module _ (n W : ℕ) where
  abbrev pub Chances : List Tree → Type 0
  Chances ws = T (all (all_nodes (good_test n false) (weight_leaf W)) ws)

  -- the mean over the settings of the conditions from k on
  pub sum_out_at : (h : C.Moment) (kept : List Tree) (k : ℕ) (ws : List Tree) (F : Tree) → Chances ws → (e : Env)
      → worth_at e (final (sum_out W h kept k ws F))
      ≡ mean (weight W (map (chance_at e) ws)) (λ r. worth_at (with_later e (given_all k r e.is_later)) F) (settings (length ws))
  unfolding sum_out final settings given_all mean weight all
  sum_out_at h kept k [] F q e = one_term (worth_at e F)
  sum_out_at h kept k (w ∷ ws) F q e =
      let d = both (all_nodes (good_test n false) (weight_leaf W) w) (all (all_nodes (good_test n false) (weight_leaf W)) ws) q in
      sum_out_at h kept (suc k) ws (result (expectation W w k F)) d.1 e
      ∙ ap (λ (f : List Bool → Total). mean (weight W (map (chance_at e) ws)) f (settings (length ws))) (fun_ext (λ r. one d.0 (given_all (suc k) r e.is_later)))
      ∙ sym (mean_doubled W (chance_at e w) (map (chance_at e) ws) (λ r. worth_at (with_later e (given_all k r e.is_later)) F) (settings (length ws)))
    where
      one : AcceptedChance n W w → (g : ℕ → Bool) → worth_at (with_later e g) (result (expectation W w k F))
          ≡ weigh (chance_at e w) (worth_at (with_later e (given k true g)) F) ⊕ weigh (W - chance_at e w) (worth_at (with_later e (given k false g)) F)
      one ok g = expectation_at n W w ok (with_later e g) k F
          ∙ ap (λ (c : ℕ). weigh c (worth_at (with_later e (given k true g)) F) ⊕ weigh (W - c) (worth_at (with_later e (given k false g)) F)) (chance_free n W w ok e g)

  pub sum_out_tests : (h : C.Moment) (kept : List Tree) (k : ℕ) (ws : List Tree) (F : Tree) → k + length ws ≡ suc n → Chances ws → Tests (open_test any n k) F
      → Tests (now_test n) (final (sum_out W h kept k ws F))
  unfolding sum_out final all now_test
  sum_out_tests h kept k [] F q a b = widen (open_test any n k) (now_test n) any any (open_none any n (now_test n) (λ j a. a) (λ p a. tt) k (omega arith)) (λ _ t. t) F b
  sum_out_tests h kept k (w ∷ ws) F q a b =
      let d = both (all_nodes (good_test n false) (weight_leaf W) w) (all (all_nodes (good_test n false) (weight_leaf W)) ws) a in
      sum_out_tests h kept (suc k) ws (result (expectation W w k F)) (omega arith) d.1
      (sure (expectation W w k F) (expectation_safe any_closed (open_test any n (suc k)) (open_test any n k) W w k (open_next any n k)
      (widen (good_test n false) (open_test any n (suc k)) (weight_leaf W) any (open_now any n (λ _ _. tt) (suc k)) (λ _ _. tt) w d.0) F b))

nth_zero : (r : List Bool) → nth r 0 ≡ false
unfolding nth
nth_zero [] = refl
nth_zero (b ∷ r) = refl

given_nth : (r : List Bool) (k j : ℕ) → given_all (suc k) r (nth []) j ≡ nth r (j - k)
unfolding given_all given nth
given_nth [] k j = refl
given_nth (b ∷ r) k j = ap (if (eqb j (suc k)) b) (given_nth r (suc k) j) ∙ go (j - k) refl
  where
    go : (i : ℕ) → j - k ≡ i → if (eqb j (suc k)) b (nth r (j - suc k)) ≡ nth (b ∷ r) i
    go zero q = ap₂ (λ (c : Bool) (i : ℕ). if c b (nth r i)) (ne_eqb j (suc k) (λ e. omega arith)) (omega arith) ∙ nth_zero r
    go (suc zero) q = ap (λ (c : Bool). if c b (nth r (j - suc k))) (eq-eqb j (suc k) (omega arith))
    go (suc (suc i)) q = ap₂ (λ (c : Bool) (i : ℕ). if c b (nth r i)) (ne_eqb j (suc k) (λ e. omega arith)) (omega arith)

pub env_given : (s : State) (r : List Bool) → with_later (env s []) (given_all 1 r (nth [])) ≡ env s r
unfolding env
env_given s r = ap (with_later (env s [])) (fun_ext (λ j. given_nth r 0 j ∙ ap (nth r) (sub-zero j)))
