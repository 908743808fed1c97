-- A substitution on the table.
use mathlib.Core.Path.{◌≡◌, refl, sym, ap, ap₂, ◌∙◌, subst}
use mathlib.Core.Bool.{Bool, true, false}
use mathlib.Core.Logic.{inl}
use mathlib.Core.List.{List}
use Prim.Native.Nat.{ℕ, ◌-◌, ◌≤◌, ◌<◌}
use native.Mathlib.Nat.{lt_of_lt_of_le}
use native.Mathlib.Omega.{arith}
use borrow.Author.Tests.{eq-eqb, ne_eqb, ltb-true, ltb-false}
use lib.Dec.{ltb}
use lib.IntN.{ℤ, pos, nat_abs}
use lib.ListN.{get_or}
use Rattle.whole.specs.Cases.{if}
use Rattle.table.specs.Table.{Answer, stop_of, at_of, count_of, made, node_at, eq_ℤ, is_leaf, is_none}
use Rattle.table.specs.declared.Node.{Node}
use Rattle.theory.specs.Widths.{conditions_most}
use Rattle.theory.specs.Diagram.{Linear, Test, now, later, linear, forbidden, lin_of, Tree, leaf, branch}
use Rattle.theory.specs.Computation.{Comp, ret, make, bind, both}
use Rattle.theory.specs.Rules.{over, choose, decide, linear_diagram, substitute}
use Rattle.rule_node.specs.declared.Down.{Down}
use Rattle.rule_node.specs.Nodes.{first_of, linear_held, test_held, tree_at, Tested, Grown}
use Rattle.rule_node.specs.Table.{EntryRule, Lasting, Table, RuleRan}
use Rattle.table_cache.specs.Cache.{WorkRoom}
use Rattle.rule_node.specs.EntryMeaning.{test_by, NamesTest, rule_of}
use Rattle.rule_node.specs.Roots.{down_of}
use Rattle.rule_node.proofs.Trees.{trees_kept, grown_on, leaf_none, leaf_some, at_leaf, at_branch}
use Rattle.rule_node.proofs.TreeMade.{grew_there}
use Rattle.rule_node.proofs.Outcomes.{lifted, grown, stop, seq, ran_as, both_high_stops, both_low_stops, both_made}
use Rattle.rule_node.proofs.CacheEntries.{room_in, answered, kept_run}
use Rattle.rule_node.proofs.Meanings.{rule_substitute, rule_walk, lasts_substitute}
use Rattle.rule_node.proofs.RuleSteps.{index_small}
use Rattle.rule_combine.specs.Levels.{Levels, levels_at}
use Rattle.rule_combine.proofs.LinearSteps.{levels_kept, levels_more}
use Rattle.rule_compose_entry.specs.declared.Words.{Words}
use Rattle.rule_compose_entry.specs.Entry.{entry_words, HeldEntry, with_result, condition_in}
use Rattle.rule_compose_entry.proofs.Entries.{code_is, place_is, indexes_are, condition_later, condition_now, condition_none, condition_most, test_cond, test_lin, cond_later, cond_now}
use Rattle.rule_compose.specs.Substitution.{head_of, over_test}

-- ---- a branch

module _ (Ds : List Tree) (p : Linear) (F H L : Tree) where
  -- what comes first, the two branches, what is made of them
  abbrev pub Parts : ℕ → Comp Tree
  Parts k = bind (head_of k Ds p F) (λ P. both (over_test k P) (substitute Ds H) (substitute Ds L))

  abbrev parts : ℕ → Bool → Comp Tree
  parts k b = bind (if b (linear_diagram Ds p) (ret F)) (λ P. both (λ X Y. if b (over choose (λ x. decide (lin_of x) X Y) P) (choose (later k) X Y)) (substitute Ds H) (substitute Ds L))

  parts_later : (k : ℕ) → (k ≡ 0 → ⊥) → substitute Ds (branch (later k) H L) ≡ Parts k
  unfolding substitute head_of over_test bind
  parts_later k n = ap (parts k) (sym (ne_eqb k 0 n))

  parts_now : (k : ℕ) → (k ≡ 0 → ⊥) → substitute Ds (branch (now k) H L) ≡ Parts k
  unfolding substitute head_of over_test bind
  parts_now k n = ap (parts k) (sym (ne_eqb k 0 n))

  parts_linear : substitute Ds (branch (linear p) H L) ≡ Parts 0
  unfolding substitute head_of over_test both
  parts_linear = refl

sub_branch : (Ds : List Tree) (x : Node) (F H L : Tree) → Tested x → substitute Ds (branch (test_held x) H L) ≡ Parts Ds (linear_held x) F H L (condition_in x)
sub_branch Ds x F H L t = go (eq_ℤ x.kind (pos 1)) refl (ltb conditions_most (nat_abs (first_of x))) refl
  where
    put : {u : Test} {k : ℕ} → test_held x ≡ u → k ≡ condition_in x → substitute Ds (branch u H L) ≡ Parts Ds (linear_held x) F H L k → substitute Ds (branch (test_held x) H L) ≡ Parts Ds (linear_held x) F H L (condition_in x)
    put eu ek e = ap (λ (u : Test). substitute Ds (branch u H L)) eu ∙ (e ∙ ap (Parts Ds (linear_held x) F H L) ek)

    go : (a : Bool) → eq_ℤ x.kind (pos 1) ≡ a → (b : Bool) → ltb conditions_most (nat_abs (first_of x)) ≡ b → substitute Ds (branch (test_held x) H L) ≡ Parts Ds (linear_held x) F H L (condition_in x)
    go true e true h =
        let q = ltb-true conditions_most (nat_abs (first_of x)) h in
        put (test_cond x e ∙ cond_later x q) (sym (condition_later x e q)) (parts_later Ds (linear_held x) F H L (nat_abs (first_of x) - conditions_most) (λ z. absurd (omega arith)))
    go true e false h =
        let q = ltb-false conditions_most (nat_abs (first_of x)) h in
        let r = (t.bounds e).0 in
        put (test_cond x e ∙ cond_now x q) (sym (condition_now x e q)) (parts_now Ds (linear_held x) F H L (nat_abs (first_of x)) (λ z. absurd (omega arith)))
    go false e b h = put (test_lin x e) (sym (condition_none x e)) (parts_linear Ds (linear_held x) F H L)

-- ---- one after another

module _ {R : EntryRule} {cap : ℕ} {l l₁ : List ℤ} {w w₁ : List ℕ} {n : ℕ} {m₀ : Comp Tree} (m₁ m₂ : Comp Tree) (mk : Tree → Tree → Tree → Comp Tree) {p : Answer} (Q : RuleRan R cap l w n m₀ l₁ w₁ p) where
  abbrev All : List ℤ → List ℕ → Answer → Type 0
  All = RuleRan R cap l w n (bind m₀ (λ P. both (mk P) m₁ m₂))

  head_stops : (stop_of p ≡ 0 → ⊥) → All l₁ w₁ p
  head_stops off = stop _ Q off

  module _ (ok : stop_of p ≡ 0) {l₂ : List ℤ} {w₂ : List ℕ} {h : Answer} (S : RuleRan R cap l₁ w₁ (count_of p) m₁ l₂ w₂ h) where
    high_stops : (stop_of h ≡ 0 → ⊥) → All l₂ w₂ h
    high_stops off = seq _ Q ok (both_high_stops (mk (tree_at l₁ (count_of p) (at_of p))) m₂ S off)

    module _ (ok₁ : stop_of h ≡ 0) {l₃ : List ℤ} {w₃ : List ℕ} {k : Answer} (U : RuleRan R cap l₂ w₂ (count_of h) m₂ l₃ w₃ k) where
      low_stops : (stop_of k ≡ 0 → ⊥) → All l₃ w₃ k
      low_stops off = seq _ Q ok (both_low_stops (mk (tree_at l₁ (count_of p) (at_of p))) m₂ S ok₁ U off)

      all_made : stop_of k ≡ 0 → {l₄ : List ℤ} {w₄ : List ℕ} {r : Answer} → RuleRan R cap l₃ w₃ (count_of k) (mk (tree_at l₃ (count_of k) (at_of p)) (tree_at l₃ (count_of k) (at_of h)) (tree_at l₃ (count_of k) (at_of k))) l₄ w₄ r → All l₄ w₄ r
      all_made ok₂ P = seq _ Q ok (both_made (mk (tree_at l₁ (count_of p) (at_of p))) m₂ S ok₁ U ok₂
          (ran_as (ap (λ (z : Tree). mk z (tree_at l₃ (count_of k) (at_of h)) (tree_at l₃ (count_of k) (at_of k)))
          (trees_kept (grown_on (grown S) (grown U)) (at_of p) (Q.within ok))) P))

-- ---- on the table

-- the substitution at f
abbrev pub Sub : List ℤ → ℕ → ℕ → List ℕ → Comp Tree
Sub l n f L = substitute (levels_at l n L) (tree_at l n f)

sub_kept : {l l' : List ℤ} {n n' : ℕ} {L : List ℕ} → Levels n L → Grown l n l' n' → (f : ℕ) → f < n → Sub l' n' f L ≡ Sub l n f L
sub_kept B G f h = ap₂ substitute (levels_kept B G) (trees_kept G f h)

module _ {cap : ℕ} {l : List ℤ} {w : List ℕ} {n : ℕ} (A : Table rule_of cap l w n) (f : ℕ) (hf : f < n) {L : List ℕ} (B : Levels n L) where
  -- the words of the cache's entry fit
  pub sub_asks : WorkRoom cap w × (f < 65536) × Levels 65536 L
  sub_asks = (room_in A, index_small f A.bare hf, record { below = λ k. index_small (get_or L k 0) A.bare (B.below k); some = B.some; most = B.most })

  abbrev k : Words
  k = entry_words f L

  rule_is : rule_of l n k.op k.f k.g k.p k.q ≡ Sub l n f L
  rule_is =
      rule_substitute l n k.f k.g k.p k.q k.op (code_is f L sub_asks.1 sub_asks.2)
      ∙ ap₂ (λ (I : List ℕ) (i : ℕ). substitute (levels_at l n I) (tree_at l n i)) (indexes_are f L sub_asks.1 sub_asks.2) (place_is f L sub_asks.1 sub_asks.2)

  -- an entry answers
  pub sub_answered : (r : ℕ) → HeldEntry cap w k r → RuleRan rule_of cap l w n (Sub l n f L) l w (made r n)
  sub_answered r E = ran_as rule_is (answered A k.op k.f k.g k.p k.q r E)

  lasts : Lasting rule_of l n k.op k.f k.g k.p k.q
  lasts = lasts_substitute l n k.op k.f k.g k.p k.q (code_is f L sub_asks.1 sub_asks.2) (subst (λ (i : ℕ). i < n) (sym (place_is f L sub_asks.1 sub_asks.2)) hf)
      (subst (λ (I : List ℕ). (i : ℕ) → get_or I i 0 < n) (sym (indexes_are f L sub_asks.1 sub_asks.2)) B.below)

  -- a result is kept
  module _ {l' : List ℤ} {w' : List ℕ} {r : Answer} (Q : RuleRan rule_of cap l w n (Sub l n f L) l' w' r) (ok : stop_of r ≡ 0) where
    pub retain_asks : WorkRoom cap w' × (f < 65536) × Levels 65536 L × ((at_of r) < 65536)
    retain_asks = (room_in Q.table, sub_asks.1, sub_asks.2, index_small (at_of r) Q.table.bare (Q.within ok))

    pub sub_stored : {w'' : List ℕ} → w'' ≡ with_result cap w' k (at_of r) → RuleRan rule_of cap l w n (Sub l n f L) l' w'' r
    sub_stored e = ran_as rule_is (kept_run lasts (ran_as (sym rule_is) Q) ok e)

  -- ---- what the node at f is

  abbrev x : Node
  x = node_at l f

  -- a leaf: "none" stays, the linear of another is built over the levels
  module _ (e : is_leaf x.kind ≡ true) {b : Bool} (eb : b ≡ is_none x.kind) where
    pub sub_none : b ≡ true → RuleRan rule_of cap l w n (Sub l n f L) l w (made f n)
    unfolding substitute
    sub_none t =
        let q : tree_at l n f ≡ leaf forbidden = at_leaf A.bare.good f hf e ∙ ap leaf (leaf_none x (sym eb ∙ t)) in
        ran_as (ap make q ∙ ap (substitute (levels_at l n L)) (sym q)) (lifted A (grew_there A.bare f hf))

    pub sub_leaf : b ≡ false → {l₁ : List ℤ} {w₁ : List ℕ} {r : Answer} → RuleRan rule_of cap l w n (linear_diagram (levels_at l n L) (linear_held x)) l₁ w₁ r → RuleRan rule_of cap l w n (Sub l n f L) l₁ w₁ r
    unfolding substitute
    sub_leaf t Q = ran_as (ap (substitute (levels_at l n L)) (sym (at_leaf A.bare.good f hf e ∙ ap leaf (leaf_some x (sym eb ∙ t))))) Q

  module _ {s : Down} (es : s ≡ down_of x) where
    kind_of : is_leaf x.kind ≡ s.ends
    unfolding down_of
    kind_of = ap (λ (s : Down). s.ends) (sym es)

    high_of : s.high ≡ nat_abs x.high
    unfolding down_of
    high_of = ap (λ (s : Down). s.high) es

    low_of : s.low ≡ nat_abs x.low
    unfolding down_of
    low_of = ap (λ (s : Down). s.low) es

    pub sub_ends : s.ends ≡ true → is_leaf x.kind ≡ true
    sub_ends e = kind_of ∙ e

    -- a branch
    module _ (e : s.ends ≡ false) where
      pub sub_tested : Tested x
      sub_tested = (A.bare.good.valid f hf).tested (kind_of ∙ e)

      pub sub_high : s.high < f
      sub_high = let a = (A.bare.good.valid f hf).high_below (kind_of ∙ e) in let b = high_of in omega arith

      pub sub_low : s.low < f
      sub_low = let a = (A.bare.good.valid f hf).low_below (kind_of ∙ e) in let b = low_of in omega arith

      module _ {k : ℕ} (ek : k ≡ condition_in x) where
        pub sub_most : k ≤ conditions_most
        sub_most = let a = condition_most x sub_tested in omega arith

        sub_is : bind (head_of k (levels_at l n L) (linear_held x) (tree_at l n f)) (λ P. both (over_test k P) (Sub l n s.high L) (Sub l n s.low L)) ≡ Sub l n f L
        sub_is =
            (λ i. Parts (levels_at l n L) (linear_held x) (tree_at l n f) (tree_at l n (high_of i)) (tree_at l n (low_of i)) (ek i))
            ∙ (sym (sub_branch (levels_at l n L) x (tree_at l n f) (tree_at l n (nat_abs x.high)) (tree_at l n (nat_abs x.low)) sub_tested)
            ∙ ap (substitute (levels_at l n L)) (sym (at_branch A.bare.good f hf (kind_of ∙ e))))

        abbrev Done : List ℤ → List ℕ → Answer → Type 0
        Done = RuleRan rule_of cap l w n (Sub l n f L)

        module _ {l₁ : List ℤ} {w₁ : List ℕ} {p : Answer} (Q : RuleRan rule_of cap l w n (head_of k (levels_at l n L) (linear_held x) (tree_at l n f)) l₁ w₁ p) where
          pub sub_head_stops : (stop_of p ≡ 0 → ⊥) → Done l₁ w₁ p
          sub_head_stops off = ran_as sub_is (head_stops _ _ (over_test k) Q off)

          pub high_asks : Table rule_of cap l₁ w₁ (count_of p) × (s.high < (count_of p)) × Levels (count_of p) L
          high_asks = (Q.table, (let a = sub_high in let b = Q.more in omega arith), levels_more B Q.more)

          module _ (ok : stop_of p ≡ 0) {l₂ : List ℤ} {w₂ : List ℕ} {h : Answer} (S' : RuleRan rule_of cap l₁ w₁ (count_of p) (Sub l₁ (count_of p) s.high L) l₂ w₂ h) where
            S : RuleRan rule_of cap l₁ w₁ (count_of p) (Sub l n s.high L) l₂ w₂ h
            S = ran_as (sub_kept B (grown Q) s.high (let a = sub_high in omega arith)) S'

            pub sub_high_stops : (stop_of h ≡ 0 → ⊥) → Done l₂ w₂ h
            sub_high_stops off = ran_as sub_is (high_stops _ _ (over_test k) Q ok S off)

            pub low_asks : Table rule_of cap l₂ w₂ (count_of h) × (s.low < (count_of h)) × Levels (count_of h) L
            low_asks = (S.table, (let a = sub_low in let b = Q.more in let c = S.more in omega arith), levels_more B (let b = Q.more in let c = S.more in omega arith))

            module _ (ok₁ : stop_of h ≡ 0) {l₃ : List ℤ} {w₃ : List ℕ} {t : Answer} (U' : RuleRan rule_of cap l₂ w₂ (count_of h) (Sub l₂ (count_of h) s.low L) l₃ w₃ t) where
              U : RuleRan rule_of cap l₂ w₂ (count_of h) (Sub l n s.low L) l₃ w₃ t
              U = ran_as (sub_kept B (grown_on (grown Q) (grown S)) s.low (let a = sub_low in omega arith)) U'

              pub sub_low_stops : (stop_of t ≡ 0 → ⊥) → Done l₃ w₃ t
              sub_low_stops off = ran_as sub_is (low_stops _ _ (over_test k) Q ok S ok₁ U off)

              pub over_asks : stop_of t ≡ 0 → Table rule_of cap l₃ w₃ (count_of t) × (k ≤ conditions_most) × ((at_of p) < (count_of t)) × ((at_of h) < (count_of t)) × ((at_of t) < (count_of t))
              over_asks ok₂ = (U.table, sub_most, (let a = Q.within ok in let b = S.more in let c = U.more in omega arith), lt_of_lt_of_le (S.within ok₁) U.more, U.within ok₂)

              pub sub_made : stop_of t ≡ 0 → {l₄ : List ℤ} {w₄ : List ℕ} {r : Answer} → RuleRan rule_of cap l₃ w₃ (count_of t)
                  (over_test k (tree_at l₃ (count_of t) (at_of p)) (tree_at l₃ (count_of t) (at_of h)) (tree_at l₃ (count_of t) (at_of t))) l₄ w₄ r → Done l₄ w₄ r
              sub_made ok₂ P = ran_as sub_is (all_made _ _ (over_test k) Q ok S ok₁ U ok₂ P)

-- ---- the parts of a branch

module _ (k : ℕ) (Ds : List Tree) (p : Linear) (F : Tree) where
  pub head_linear : k ≡ 0 → linear_diagram Ds p ≡ head_of k Ds p F
  unfolding head_of
  head_linear e = ap (λ (b : Bool). if b (linear_diagram Ds p) (ret F)) (sym (eq-eqb k 0 e))

  pub head_none : (k ≡ 0 → ⊥) → ret F ≡ head_of k Ds p F
  unfolding head_of
  head_none e = ap (λ (b : Bool). if b (linear_diagram Ds p) (ret F)) (sym (ne_eqb k 0 e))

module _ (k : ℕ) (l : List ℤ) (n p h t : ℕ) where
  pub over_walk : k ≡ 0 → rule_of l n 9 p h t 0 ≡ over_test k (tree_at l n p) (tree_at l n h) (tree_at l n t)
  unfolding over_test
  over_walk e = rule_walk l n p h t 0 ∙ ap (λ (b : Bool). if b (over choose (λ x. decide (lin_of x) (tree_at l n h) (tree_at l n t)) (tree_at l n p)) (choose (later k) (tree_at l n h) (tree_at l n t))) (sym (eq-eqb k 0 e))

  pub over_choice : (k ≡ 0 → ⊥) → choose (test_by l n 10 k) (tree_at l n h) (tree_at l n t) ≡ over_test k (tree_at l n p) (tree_at l n h) (tree_at l n t)
  unfolding over_test test_by
  over_choice e = ap (λ (b : Bool). if b (over choose (λ x. decide (lin_of x) (tree_at l n h) (tree_at l n t)) (tree_at l n p)) (choose (later k) (tree_at l n h) (tree_at l n t))) (sym (ne_eqb k 0 e))

pub names_later : {n k : ℕ} → k ≤ conditions_most → (k ≡ 0 → ⊥) → NamesTest n 10 k
names_later h e = inl (refl, omega arith, h)
