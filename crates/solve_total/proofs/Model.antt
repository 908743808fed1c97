-- An accepted model's diagrams stand in rows, one for each action: its reward, its chances, its next levels.
use mathlib.Core.Path.{◌≡◌, refl, sym, ap, ap₂, ◌∙◌, subst}
use mathlib.Core.List.{List, [], ◌∷◌, ◌++◌, map, append_assoc}
use Prim.Native.Nat.{ℕ, zero, suc, ◌+◌, ◌-◌, ◌*◌, ◌≤◌, ◌<◌}
use native.Mathlib.Nat.{suc-mul, mul-le-mul_right}
use native.Mathlib.Omega.{arith}
use lib.Dec.{leb→le}
use lib.ListN.{length, get_or, take, drop, length-append, take-append-drop}
use lib.Seq.{drop-append-add, drop-append-le, drop-drop, get_or-drop, take_at, drop_at}
use Rattle.theory.specs.Widths.{levels_most, conditions_most, actions_most, weights_most}
use Rattle.theory.specs.Diagram.{Tree}
use Rattle.theory.specs.Meaning.{Action, Model}
use Rattle.theory.specs.Verdict.{Site, from_to, verdict}
use Rattle.theory.specs.Load.{Entry, action_of, model, model_of, site_at}
use Rattle.theory.specs.Stage.{action_diagrams, all_diagrams, model_diagrams}
use Rattle.theory.proofs.laws.Valid.{among_out}
use Rattle.theory.proofs.laws.AcceptedModel.{OfSite, accepted_site, model_loaded}
use Rattle.theory.specs.Load.{loaded_entries}
use Rattle.rule_node.specs.Nodes.{blank}
use Rattle.model_progress.specs.declared.Site.{Site as CodeSite}
use Rattle.model_progress.specs.GivenFlags.{site_as}
use Rattle.load_model.proofs.Places.{row_few}
use Rattle.solve_total.specs.StageTable.{action_size, model_size, action_numbered}

-- ---- the site

-- an accepted site's numbers, and the model's, which are the same
pub record Sited (B : List ℕ) : Type 0 where
  pub some_levels : 1 ≤ (site_at B).levels
  pub few_levels : (site_at B).levels ≤ levels_most
  pub few_conditions : (site_at B).conditions ≤ conditions_most
  pub some_actions : 1 ≤ (site_at B).actions
  pub few_actions : (site_at B).actions ≤ actions_most
  pub some_weights : 1 ≤ (site_at B).weights
  pub few_weights : (site_at B).weights ≤ weights_most
  pub same : OfSite (site_at B) (model B)

pub sited : (B : List ℕ) → (verdict B).number ≡ 0 → Sited B
sited B ok =
    let s = accepted_site B ok in
    let m = among_out levels_most (site_at B).levels s.0.levels_in in
    let a = among_out actions_most (site_at B).actions s.0.actions_in in
    let w = among_out weights_most (site_at B).weights s.0.weights_in in
    record {
      some_levels = m.0;
      few_levels = m.1;
      few_conditions = leb→le (site_at B).conditions conditions_most s.0.conditions_in;
      some_actions = a.0;
      few_actions = a.1;
      some_weights = w.0;
      few_weights = w.1;
      same = s.1;
    }

-- how many roots the model's diagrams have, as the code counts them
pub size_of : (B : List ℕ) {s : CodeSite} {m n a : ℕ} → site_as s ≡ site_at B → m ≡ s.levels → n ≡ s.conditions → a ≡ s.actions → a * (1 + n + m) ≡ model_size B
size_of B es em en ea = ap₂ ◌*◌ ea (ap₂ (λ (m n : ℕ). 1 + n + m) em en) ∙ ap (λ (S : Site). S.actions * (1 + S.conditions + S.levels)) es

pub size_fits : (m n a : ℕ) → m < 256 → n < 256 → a < 65536 → a * (1 + n + m) < 33554432
size_fits m n a h k j = row_few a (1 + n + m) j (omega arith)

-- ---- rows

pub record Sized (n m : ℕ) (x : Action) : Type 0 where
  pub chances : length x.chances ≡ n
  pub levels : length x.levels ≡ m

-- all of some actions
Even : ℕ → ℕ → List Action → Type 0
Even n m [] = 0 ≤ n
Even n m (x ∷ L) = Sized n m x × Even n m L

-- an action's row is as long as its site says
sized_length : (n m : ℕ) (x : Action) → Sized n m x → length (action_diagrams x) ≡ 1 + n + m
sized_length n m x s = let a = length-append x.chances x.levels in omega (arith, a, s.chances, s.levels)

module _ (n m : ℕ) where
  even_at : (d : Action) (L : List Action) (i : ℕ) → i < length L → Even n m L → Sized n m (get_or L i d)
  unfolding Even
  even_at d [] i h e = absurd (omega arith)
  even_at d (x ∷ L) zero h e = e.0
  even_at d (x ∷ L) (suc i) h e = even_at d L i (omega arith) e.1

  even_map : (f : ℕ → Action) → ((a : ℕ) → Sized n m (f a)) → (L : List ℕ) → Even n m (map f L)
  unfolding Even
  even_map f s [] = omega arith
  even_map f s (a ∷ L) = (s a, even_map f s L)

  rows_length : (L : List Action) → Even n m L → length (all_diagrams L) ≡ length L * (1 + n + m)
  unfolding Even all_diagrams
  rows_length [] e = omega arith
  rows_length (x ∷ L) e =
      let a = length-append (action_diagrams x) (all_diagrams L) in
      let b = sized_length n m x e.0 in
      let r = rows_length L e.1 in
      let s = suc-mul (length L) (1 + n + m) in
      omega (arith, a, b, r, s)

  -- action i's row, and what is behind it
  row_drop : (d : Action) (L : List Action) (i : ℕ) → i < length L → Even n m L → drop (i * (1 + n + m)) (all_diagrams L) ≡ action_diagrams (get_or L i d) ++ all_diagrams (drop (suc i) L)
  unfolding Even all_diagrams
  row_drop d [] i h e = absurd (omega arith)
  row_drop d (x ∷ L) zero h e = ap (λ (k : ℕ). drop k (action_diagrams x ++ all_diagrams L)) (let z : 0 * (1 + n + m) ≡ 0 = omega arith in z)
  row_drop d (x ∷ L) (suc i) h e =
      let s = suc-mul i (1 + n + m) in
      let b = sized_length n m x e.0 in
      ap (λ (k : ℕ). drop k (action_diagrams x ++ all_diagrams L)) (let z : suc i * (1 + n + m) ≡ length (action_diagrams x) + i * (1 + n + m) = omega (arith, s, b) in z)
      ∙ (drop-append-add (action_diagrams x) (all_diagrams L) (i * (1 + n + m)) ∙ row_drop d L i (omega arith) e.1)

-- ---- the parts of a row, anywhere in a list

module _ (Q : List Tree) (row n m : ℕ) (x : Action) (Z : List Tree) (s : Sized n m x) (e : drop row Q ≡ action_diagrams x ++ Z) where
  part_reward : get_or Q row blank ≡ x.reward
  part_reward = ap (λ (k : ℕ). get_or Q k blank) (let z : row ≡ row + 0 = omega arith in z) ∙ (sym (get_or-drop row Q 0 blank) ∙ ap (λ (l : List Tree). get_or l 0 blank) e)

  part_drop : drop (row + 1) Q ≡ x.chances ++ (x.levels ++ Z)
  part_drop = sym (drop-drop 1 row Q) ∙ (ap (drop 1) e ∙ append_assoc x.chances x.levels Z)

  part_chances : take n (drop (row + 1) Q) ≡ x.chances
  part_chances = ap (take n) part_drop ∙ take_at x.chances (x.levels ++ Z) n s.chances

  part_levels : take m (drop (row + 1 + n) Q) ≡ x.levels
  part_levels = ap (take m) (sym (drop-drop n (row + 1) Q) ∙ (ap (drop n) part_drop ∙ drop_at x.chances (x.levels ++ Z) n s.chances)) ∙ take_at x.levels Z m s.levels

-- ---- the model

from_length : {A : Type 0} (f : ℕ → A) (b k : ℕ) → length (map f (from_to b k)) ≡ k
unfolding from_to
from_length f b zero = refl
from_length f b (suc k) = ap suc (from_length f (suc b) k)

abbrev all_of : Model → List Action
all_of M = M.first ∷ M.others

action_sized : (S : Site) (E : List Entry) (a : ℕ) → Sized S.conditions S.levels (action_of S E a)
unfolding action_of
action_sized S E a = record { chances = from_length _ 1 S.conditions; levels = from_length _ 1 S.levels }

model_even : (S : Site) (E : List Entry) → Even S.conditions S.levels (all_of (model_of S E))
unfolding model_of
model_even S E = even_map S.conditions S.levels (action_of S E) (action_sized S E) (1 ∷ from_to 2 (S.actions - 1))

-- what stands at an action's row of roots that begin with the model's diagrams
pub record Row (B : List ℕ) (Q : List Tree) (a : ℕ) : Type 0 where
  pub reward : get_or Q ((a - 1) * action_size B) blank ≡ (action_numbered B a).reward
  pub chances : take (site_at B).conditions (drop ((a - 1) * action_size B + 1) Q) ≡ (action_numbered B a).chances
  pub levels : take (site_at B).levels (drop ((a - 1) * action_size B + 1 + (site_at B).conditions) Q) ≡ (action_numbered B a).levels
  pub within : (a - 1) * action_size B + action_size B ≤ model_size B

module _ (B : List ℕ) (ok : (verdict B).number ≡ 0) where
  all_even : Even (site_at B).conditions (site_at B).levels (all_of (model B))
  all_even = subst (λ (M : Model). Even (site_at B).conditions (site_at B).levels (all_of M)) (sym (model_loaded B)) (model_even (site_at B) (loaded_entries B))

  pub model_size_is : length (model_diagrams (model B)) ≡ model_size B
  unfolding model_diagrams
  model_size_is = rows_length (site_at B).conditions (site_at B).levels (all_of (model B)) all_even ∙ ap (λ (k : ℕ). k * action_size B) (sited B ok).same.same_actions

  module _ (a : ℕ) (some : 1 ≤ a) (most : a ≤ (site_at B).actions) where
    pub row_within : (a - 1) * action_size B + action_size B ≤ model_size B
    row_within =
        let s = suc-mul (a - 1) (action_size B) in
        let h = mul-le-mul_right (action_size B) (let z : suc (a - 1) ≤ (site_at B).actions = omega arith in z) in
        omega (arith, s, h)

    row_in : a - 1 < length (all_of (model B))
    row_in = let z = (sited B ok).same.same_actions in omega (arith, z)

    -- the row, and what is behind it
    pub row_behind : (Q : List Tree) → take (model_size B) Q ≡ model_diagrams (model B)
        → drop ((a - 1) * action_size B) Q ≡ action_diagrams (action_numbered B a) ++ (all_diagrams (drop (suc (a - 1)) (all_of (model B))) ++ drop (model_size B) Q)
    unfolding model_diagrams
    row_behind Q e =
        let r = (a - 1) * action_size B in
        let D = all_diagrams (all_of (model B)) in
        let Z = drop (model_size B) Q in
        let h : r ≤ length D = omega (arith, row_within, model_size_is) in
        ap (drop r) (sym (take-append-drop (model_size B) Q) ∙ ap (λ (l : List Tree). l ++ Z) e)
        ∙ (drop-append-le r D Z h
        ∙ (ap (λ (l : List Tree). l ++ Z) (row_drop (site_at B).conditions (site_at B).levels (model B).first (all_of (model B)) (a - 1) row_in all_even)
        ∙ append_assoc (action_diagrams (action_numbered B a)) (all_diagrams (drop (suc (a - 1)) (all_of (model B)))) Z))

    pub row_of : (Q : List Tree) → take (model_size B) Q ≡ model_diagrams (model B) → Row B Q a
    row_of Q e =
        let r = (a - 1) * action_size B in
        let n = (site_at B).conditions in
        let m = (site_at B).levels in
        let Z = all_diagrams (drop (suc (a - 1)) (all_of (model B))) ++ drop (model_size B) Q in
        let s = even_at n m (model B).first (all_of (model B)) (a - 1) row_in all_even in
        let b = row_behind Q e in
        record {
          reward = part_reward Q r n m (action_numbered B a) Z s b;
          chances = part_chances Q r n m (action_numbered B a) Z s b;
          levels = part_levels Q r n m (action_numbered B a) Z s b;
          within = row_within;
        }
