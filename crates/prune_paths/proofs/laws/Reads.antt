-- What a path leaves: every state reads the same value and action as before, whatever wrote the tables.
use Rattle.std.specs.Prelude.{◌≡◌, Bool, true, not, T, ltb, ℤ, length}
use Rattle.std.proofs.Math.Path.{refl, sym, ap, subst}
use Rattle.std.proofs.Common.{◌∙◌, ne_eqb, eqb→eq, nltb→le}
use Rattle.std.proofs.Math.Bool.{false}
use Rattle.std.proofs.Math.Logic.{⊎_elim}
use mathlib.Core.List.Memᴰ
use mathlib.Core.List.{List, [], ◌∷◌, Memᴰ}
use Prim.Native.Nat.{ℕ, zero, suc, ◌+◌, ◌-◌, ◌≤◌, ◌<◌}
use native.Mathlib.Omega.{arith}
use Rattle.std.proofs.Math.Dec.{eqb}
use Rattle.std.proofs.Math.ListN.{get_or}
use Rattle.whole.specs.Cases.{if, by_test, by_eq, from_true, clash}
use Rattle.theory.specs.Widths.{steps_most}
use Rattle.theory.specs.Diagram.{Test, Leaf, Tree, leaf, branch}
use Rattle.theory.specs.Computation.{make, result, member, enter, enter_all}
use Rattle.theory.specs.Rules.{node, over}
use Rattle.theory.specs.Meaning.{Env, at, worth_at}
use Rattle.theory.specs.Valid.{all, good_test, stage_leaf}
use Rattle.theory.specs.Verdict.{Verdict, refusal, from_to}
use Rattle.theory.specs.Load.{site_at}
use Rattle.theory.specs.Solve.{room, early, number_of, table_of, solved_nodes}
use Rattle.theory.specs.Value.{Asked, accepted, good_row, walk, ValueOut, refused_value, value_at, value_of}
use Rattle.theory.specs.Listing.{greatest_root}
use Rattle.prune_paths.specs.Prune.{diagram_at, along, shaped, proves, cut, remade, stage_anew, stages_anew, words_anew, path_number, path_needs, prune_refusal, pruned, PruneOut, prune}
use Rattle.theory.proofs.laws.Nodes.{GoodTree, parts, branch_good, leaf_good, node_safe, over_safe}
use Rattle.theory.proofs.laws.Safe.{any, safe_make, sure}
use Rattle.theory.proofs.laws.Table.{enter_all_grown, enter_has, number_above, number_below}
use Rattle.theory.proofs.laws.Words.{StageGood}
use Rattle.theory.proofs.laws.ValueWalk.{asked_env, greatest_least, stage_read}
use Rattle.theory.proofs.laws.Rows.{Passed, by_early, early_some}
use Rattle.prune_paths.proofs.laws.Excluded.{remade_at, pruned_at}
use Rattle.prune_paths.proofs.laws.Foreign.{RowsGood, rows_good, tree_good, told, foreign_walk}

-- ---- which tests and leaves stand in what is left

module _ (t? : Test → Bool) (f? : Leaf → Bool) where
  pub cut_good : (bs : List ℕ) (F : Tree) → GoodTree t? f? F → GoodTree t? f? (cut bs F)
  unfolding cut
  cut_good [] F g = g
  cut_good (b ∷ bs) (leaf f) g = g
  cut_good (b ∷ []) (branch t h l) g = let d = parts t? f? t h l g in by_test (eqb b 1) (λ c. GoodTree t? f? (if c l h)) (λ _. d.1.1) (λ _. d.1.0)
  cut_good (b ∷ c ∷ bs) (branch t h l) g =
      let d = parts t? f? t h l g in
      let H = cut_good (c ∷ bs) h d.1.0 in
      let L = cut_good (c ∷ bs) l d.1.1 in
      by_test (eqb b 1) (λ x. GoodTree t? f? (if x (branch t (cut (c ∷ bs) h) l) (branch t h (cut (c ∷ bs) l))))
      (λ _. branch_good t? f? t (cut (c ∷ bs) h) l d.0 H d.1.1) (λ _. branch_good t? f? t h (cut (c ∷ bs) l) d.0 d.1.0 L)

  pub remade_good : (F : Tree) → GoodTree t? f? F → GoodTree t? f? (result (remade F))
  unfolding remade
  remade_good F g = sure (over node (λ f. make (leaf f)) F) (over_safe any t? f? f? node (node_safe any t? f?) (λ f. make (leaf f)) (λ f a. safe_make (leaf f) (leaf_good t? f? f a)) F g)

-- ---- the stages

module _ (W : List ℤ) (s : ℕ) (turns : List ℕ) where
  stage_good : (n A h r : ℕ) → 1 ≤ r → RowsGood n A W r → StageGood n A (stage_anew W s turns h r)
  unfolding stage_anew
  stage_good n A h r a g =
      let F = diagram_at W r in
      let t = tree_good n A W r r a (omega arith) g in
      by_test (eqb h s) (λ b. StageGood n A (result (remade (if b (cut turns F) F))))
      (λ _. remade_good (good_test n false) (stage_leaf A) (cut turns F) (cut_good (good_test n false) (stage_leaf A) turns F t))
      (λ _. remade_good (good_test n false) (stage_leaf A) F t)

  -- every state comes to the same leaf, where the stage's path is accepted
  pub stage_same : (e : Env) (h r : ℕ) (ks : List ℤ) → (T (eqb h s) → T (proves (along turns (diagram_at W r)) ks)) → at e (stage_anew W s turns h r) ≡ at e (diagram_at W r)
  unfolding stage_anew
  stage_same e h r ks p =
      let F = diagram_at W r in
      by_test (eqb h s) (λ b. at e (result (remade (if b (cut turns F) F))) ≡ at e F) (λ t. pruned_at e turns F ks (p t)) (λ _. remade_at e F)

  pub each_good : (n A h : ℕ) (rs : List ℕ) → ((i : ℕ) → i < length rs → 1 ≤ get_or rs i 0 → RowsGood n A W (get_or rs i 0)) → (u : Tree) → Memᴰ u (stages_anew W s turns h rs) → StageGood n A u
  unfolding stages_anew
  each_good n A h [] f u m = absurd (Memᴰ.not-nil m)
  each_good n A h (r ∷ rs) f u m =
      let S = stages_anew W s turns (suc h) rs in
      let rest = each_good n A (suc h) rs (λ i l. f (suc i) (omega arith)) u in
      by_eq (eqb r 0) (λ b. Memᴰ u (if b S (stage_anew W s turns h r ∷ S)) → StageGood n A u) (λ _. rest)
      (λ z. λ m. ⊎_elim (λ e. subst (StageGood n A) (sym e) (stage_good n A h r (above r z) (f 0 (omega arith) (above r z)))) rest (Memᴰ.cases_cons m)) m
    where
      above : (r : ℕ) → eqb r 0 ≡ false → 1 ≤ r
      above zero e = clash e
      above (suc r) e = omega arith

  pub words_length : (X : List Tree) (h : ℕ) (rs : List ℕ) → length (words_anew W s turns X h rs) ≡ length rs
  unfolding words_anew
  words_length X h [] = refl
  words_length X h (r ∷ rs) = ap suc (words_length X (suc h) rs)

  abbrev word_by : List Tree → ℕ → ℕ → ℕ
  word_by X h r = if (eqb r 0) 0 (number_of (stage_anew W s turns h r) X)

  pub word_below : (X : List Tree) (h r : ℕ) → word_by X h r ≤ length X
  word_below X h r = by_test (eqb r 0) (λ b. if b 0 (number_of (stage_anew W s turns h r) X) ≤ length X) (λ _. omega arith) (λ _. number_below (stage_anew W s turns h r) X)

  pub word_anew : (X : List Tree) (h i : ℕ) (rs : List ℕ) → get_or (words_anew W s turns X h rs) i 0 ≡ word_by X (h + i) (get_or rs i 0)
  unfolding words_anew
  word_anew X h i [] = refl
  word_anew X h zero (r ∷ rs) = let z : h ≡ h + 0 = omega arith in ap (λ (j : ℕ). word_by X j r) z
  word_anew X h (suc i) (r ∷ rs) = let z : suc h + i ≡ h + suc i = omega arith in word_anew X (suc h) i rs ∙ ap (λ (j : ℕ). word_by X j (get_or rs i 0)) z

  pub anew_in : (Y : List Tree) (h i : ℕ) (rs : List ℕ) → eqb (get_or rs i 0) 0 ≡ false → member (stage_anew W s turns (h + i) (get_or rs i 0)) (enter_all (stages_anew W s turns h rs) Y) ≡ true
  unfolding stages_anew enter_all
  anew_in Y h i [] e = clash e
  anew_in Y h zero (r ∷ rs) e =
      let z : h ≡ h + 0 = omega arith in
      let t = stage_anew W s turns h r in
      let S = stages_anew W s turns (suc h) rs in
      subst (λ (j : ℕ). member (stage_anew W s turns j r) (enter_all (if (eqb r 0) S (t ∷ S)) Y) ≡ true) z
      (subst (λ b. member t (enter_all (if b S (t ∷ S)) Y) ≡ true) (sym e) ((enter_all_grown S (enter t Y)).kept t (enter_has t Y)))
  anew_in Y h (suc i) (r ∷ rs) e =
      let z : suc h + i ≡ h + suc i = omega arith in
      let t = stage_anew W s turns h r in
      let S = stages_anew W s turns (suc h) rs in
      let r' = get_or rs i 0 in
      subst (λ (j : ℕ). member (stage_anew W s turns j r') (enter_all (if (eqb r 0) S (t ∷ S)) Y) ≡ true) z
      (by_test (eqb r 0) (λ b. member (stage_anew W s turns (suc h + i) r') (enter_all (if b S (t ∷ S)) Y) ≡ true)
      (λ _. anew_in Y (suc h) i rs e) (λ _. anew_in (enter t Y) (suc h) i rs e))

-- ---- what a call that is not refused has seen

pub record ClearedPath (B : List ℕ) (nodes : List ℤ) (stages : List ℕ) (N s : ℕ) (turns : List ℕ) (ks : List ℤ) : Type 0 where
  pub before : Passed B s (length stages)
  pub rooted : eqb (get_or stages (s - 1) 0) 0 ≡ false
  pub rows : RowsGood (site_at B).conditions (site_at B).actions nodes (greatest_root steps_most stages)
  pub shape : T (shaped turns (diagram_at nodes (get_or stages (s - 1) 0)) ks)
  pub proof : T (proves (along turns (diagram_at nodes (get_or stages (s - 1) 0))) ks)
  pub within : path_needs (greatest_root steps_most stages) turns ≤ N

not_zero : (v : ℕ) → 1 ≤ v → eqb v 0 ≡ true → ⊥
not_zero v a e = let z = eqb→eq v 0 (from_true e) in omega arith

-- a refusal from each test in turn
abbrev pub refusal_by : ℕ → Bool → Bool → Bool → Bool → Bool → Verdict
refusal_by s root0 good shape proof more =
    let k : ℕ = if shape (if proof 0 21) 22 in
    if root0 (refusal 15 0) (if (not good) (refusal 14 0) (if (not (eqb k 0)) (refusal k 0) (if more (refusal 12 s) (refusal 0 0))))

all_passed : (s : ℕ) (a b c d f : Bool) → eqb (refusal_by s a b c d f).number 0 ≡ true → (a ≡ false) × (b ≡ true) × (c ≡ true) × (d ≡ true) × (f ≡ false)
all_passed s true b c d f e = clash (sym e)
all_passed s false false c d f e = clash (sym e)
all_passed s false true false d f e = clash (sym e)
all_passed s false true true false f e = clash (sym e)
all_passed s false true true true true e = clash (sym e)
all_passed s false true true true false e = (refl, refl, refl, refl, refl)

pub cleared : (B : List ℕ) (nodes : List ℤ) (stages : List ℕ) (N s : ℕ) (turns : List ℕ) (ks : List ℤ)
    → eqb (prune_refusal B nodes stages N s turns ks).number 0 ≡ true → ClearedPath B nodes stages N s turns ks
unfolding prune_refusal path_number
cleared B nodes stages N s turns ks =
    let n = (site_at B).conditions in
    let A = (site_at B).actions in
    let G = greatest_root steps_most stages in
    let F = diagram_at nodes (get_or stages (s - 1) 0) in
    let rest = refusal_by s (eqb (get_or stages (s - 1) 0) 0) (all (good_row n A nodes) (from_to 1 G)) (shaped turns F ks) (proves (along turns F) ks) (ltb N (path_needs G turns)) in
    by_early B s (length stages) (λ v b. eqb (if (not b) v rest).number 0 ≡ true → ClearedPath B nodes stages N s turns ks)
    (λ p e.
    let d = all_passed s (eqb (get_or stages (s - 1) 0) 0) (all (good_row n A nodes) (from_to 1 G)) (shaped turns F ks) (proves (along turns F) ks) (ltb N (path_needs G turns)) e in
    record {
      before = p;
      rooted = d.0;
      rows = rows_good n A nodes G (from_true d.1);
      shape = from_true d.2;
      proof = from_true d.3;
      within = nltb→le N (path_needs G turns) (from_true (ap not d.4));
    })
    (λ k p r e. absurd (not_zero k (early_some r) e))

-- ---- reading

-- what value_of comes to, from the refusals before the walk
abbrev value_by : List ℕ → Asked → Verdict → Bool → List ℤ → ℕ → ValueOut
value_by B q v b nodes root = if b
    (if (accepted (site_at B).levels (site_at B).conditions q)
    (if (eqb root 0) (refused_value 15 0) (value_at q nodes (walk (site_at B).conditions (site_at B).actions q nodes root root)))
    (refused_value 13 0))
    (refused_value v.number v.place)

module _ (B : List ℕ) (nodes : List ℤ) (stages : List ℕ) (N s : ℕ) (turns : List ℕ) (ks : List ℤ) (c : ClearedPath B nodes stages N s turns ks) where
  abbrev S : List Tree
  S = stages_anew nodes s turns 1 stages

  abbrev after : List ℤ
  after = solved_nodes (length nodes) S

  stage_reads : (h : ℕ) (q : Asked) → 1 ≤ h → h ≤ steps_most → (ok : T (accepted (site_at B).levels (site_at B).conditions q)) → eqb (get_or stages (h - 1) 0) 0 ≡ false
      → let t = stage_anew nodes s turns (1 + (h - 1)) (get_or stages (h - 1) 0) in
      let r = number_of t (table_of S) in
      let root = get_or stages (h - 1) 0 in
      value_at q after (walk (site_at B).conditions (site_at B).actions q after r r) ≡ value_at q nodes (walk (site_at B).conditions (site_at B).actions q nodes root root)
  unfolding worth_at table_of
  stage_reads h q a b ok z =
      let n = (site_at B).conditions in
      let A = (site_at B).actions in
      let m = (site_at B).levels in
      let root = get_or stages (h - 1) 0 in
      let t = stage_anew nodes s turns (1 + (h - 1)) root in
      let e = asked_env m n q ok in
      let some : 1 ≤ root = above root z in
      let most = greatest_least steps_most stages (h - 1) (omega arith) in
      let g : RowsGood n A nodes root = λ i u v. c.rows i u (omega arith) in
      stage_read m n q ok A (length nodes) S t (anew_in nodes s turns [] 1 (h - 1) stages z) (stage_good nodes s turns n A (1 + (h - 1)) root some g)
      ∙ (ap (told n A nodes m q ok) (stage_same nodes s turns e (1 + (h - 1)) root ks (λ u. same u))
      ∙ sym (foreign_walk n A nodes m q ok root root some (omega arith) g))
    where
      above : (r : ℕ) → eqb r 0 ≡ false → 1 ≤ r
      above zero e = clash e
      above (suc r) e = omega arith

      same : T (eqb (1 + (h - 1)) s) → T (proves (along turns (diagram_at nodes (get_or stages (h - 1) 0))) ks)
      same u =
          let z : h - 1 ≡ s - 1 = omega (arith, eqb→eq (1 + (h - 1)) s u) in
          subst (λ (j : ℕ). T (proves (along turns (diagram_at nodes (get_or stages j 0))) ks)) (sym z) c.proof

  root_reads : (h : ℕ) (q : Asked) → 1 ≤ h → h ≤ steps_most → T (accepted (site_at B).levels (site_at B).conditions q)
      → let n = (site_at B).conditions in
      let A = (site_at B).actions in
      let r = word_by nodes s turns (table_of S) (1 + (h - 1)) (get_or stages (h - 1) 0) in
      let root = get_or stages (h - 1) 0 in
      if (eqb r 0) (refused_value 15 0) (value_at q after (walk n A q after r r)) ≡ if (eqb root 0) (refused_value 15 0) (value_at q nodes (walk n A q nodes root root))
  unfolding table_of
  root_reads h q a b ok =
      let n = (site_at B).conditions in
      let A = (site_at B).actions in
      let root = get_or stages (h - 1) 0 in
      let t = stage_anew nodes s turns (1 + (h - 1)) root in
      let X = table_of S in
      by_eq (eqb root 0)
      (λ x. let r = if x 0 (number_of t X) in if (eqb r 0) (refused_value 15 0) (value_at q after (walk n A q after r r)) ≡ if x (refused_value 15 0) (value_at q nodes (walk n A q nodes root root)))
      (λ _. refl)
      (λ z.
      let some = number_above t X (anew_in nodes s turns [] 1 (h - 1) stages z) in
      ap (λ x. if x (refused_value 15 0) (value_at q after (walk n A q after (number_of t X) (number_of t X)))) (ne_eqb (number_of t X) 0 (λ e. omega arith)) ∙ stage_reads h q a b ok z)

  pub cleared_reads : (h : ℕ) (q : Asked) → value_of B after (words_anew nodes s turns (table_of S) 1 stages) h q ≡ value_of B nodes stages h q
  unfolding value_of
  cleared_reads h q =
      let X = table_of S in
      let ws = words_anew nodes s turns X 1 stages in
      (λ i. let v = early B h (words_length nodes s turns X 1 stages i) in value_by B q v (eqb v.number 0) after (word_anew nodes s turns X 1 (h - 1) stages i))
      ∙ by_early B h (length stages) (λ v b. value_by B q v b after (word_by nodes s turns X (1 + (h - 1)) (get_or stages (h - 1) 0)) ≡ value_by B q v b nodes (get_or stages (h - 1) 0))
      (λ p. by_test (accepted (site_at B).levels (site_at B).conditions q)
      (λ x. let r = word_by nodes s turns X (1 + (h - 1)) (get_or stages (h - 1) 0) in
      let root = get_or stages (h - 1) 0 in
      let n = (site_at B).conditions in
      let A = (site_at B).actions in
      if x (if (eqb r 0) (refused_value 15 0) (value_at q after (walk n A q after r r))) (refused_value 13 0)
      ≡ if x (if (eqb root 0) (refused_value 15 0) (value_at q nodes (walk n A q nodes root root))) (refused_value 13 0))
      (λ ok. root_reads h q p.least p.most ok) (λ _. refl))
      (λ k p r. refl)

-- "Every state then reads the same value and action as before": any tables, any state, any stage, accepted or refused
pub prune_reads : (B : List ℕ) (nodes : List ℤ) (stages work : List ℕ) (s : ℕ) (turns : List ℕ) (ks : List ℤ) (h : ℕ) (q : Asked)
    → let o = prune B nodes stages work s turns ks in
    value_of B o.nodes o.stages h q ≡ value_of B nodes stages h q
unfolding prune pruned
prune_reads B nodes stages work s turns ks h q =
    let N = room (length nodes) (length work) in
    let v = prune_refusal B nodes stages N s turns ks in
    by_eq (eqb v.number 0)
    (λ b. let o : PruneOut = if b (pruned nodes stages work s turns) (record { number = v.number; place = v.place; nodes = nodes; stages = stages; work = work }) in
    value_of B o.nodes o.stages h q ≡ value_of B nodes stages h q)
    (λ z. cleared_reads B nodes stages N s turns ks (cleared B nodes stages N s turns ks z) h q) (λ _. refl)
