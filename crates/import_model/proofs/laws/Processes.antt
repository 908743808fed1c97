-- The process of the model that a text's commands load is the text's process.
use Rattle.std.specs.Prelude.{◌≡◌, Bool, not, ◌&&◌, T, eqb, ltb, ℤ}
use Rattle.std.proofs.Math.Path.{refl, ap}
use Rattle.std.proofs.Common.{sym, ap₂, ◌∙◌, subst, arith, ltb→lt, eqb→eq}
use Rattle.std.proofs.Math.Logic.{⊎_elim}
use mathlib.Core.List.Memᴰ
use mathlib.Core.List.{List, [], ◌∷◌, map, Memᴰ}
use Prim.Native.Nat.{ℕ, zero, suc, ◌+◌, ◌-◌, ◌*◌, ◌^◌, ◌≤◌, ◌<◌}
use Rattle.whole.specs.Cases.{if, by_test, same_bool}
use Rattle.whole.specs.Int.{up}
use Rattle.theory.specs.Diagram.{Leaf, lin_of}
use Rattle.theory.specs.Rules.{zero_leaf}
use Rattle.theory.specs.Command.{Slot}
use Rattle.theory.specs.Verdict.{Site, same_slot, reward_slot, chance_slot, level_slot, end_slot, from_to}
use Rattle.theory.specs.Load.{Entry, find_slot, found, action_of, model_of}
use Rattle.theory.specs.Process.{Action}
use Rattle.theory.specs.Total.{weigh}
use Rattle.theory.specs.Meaning.{Action as ModelAction, Model, nth_action, action_at, numbers_from, Env, env, value, at, leaf_worth, worth_at, level_at, end_at, chance_at, weight, moved, process}
use Rattle.theory.proofs.laws.Valid.{other_above}
use Rattle.import_model.specs.Commands.{at_most, action_most}
use Rattle.import_model.specs.Meaning.{Item, item_leaf, leaf_at, end_worth, process_of}
use Rattle.import_model.proofs.laws.Items.{capped, Entered, no_entry, one_entry}
use Rattle.import_model.proofs.laws.Alike.{Alike}

-- ---- what is found for a slot

capped_eq : (a n : ℕ) → a < action_most → eqb a (at_most action_most n) ≡ eqb a n
unfolding at_most
capped_eq a n h = by_test (ltb action_most n) (λ b. eqb a (if b action_most n) ≡ eqb a n)
    (λ t. same_bool _ _ (λ u. absurd (omega (arith, h, eqb→eq a action_most u))) (λ u. absurd (omega (arith, h, ltb→lt action_most n t, eqb→eq a n u))))
    (λ _. refl)

-- an action of the site is looked up as it is written
same_capped : (g h : Slot) → g.action < action_most → same_slot g (capped h) ≡ same_slot g h
unfolding same_slot
same_capped g h q = ap (λ (b : Bool). eqb g.command h.command && (b && eqb g.index h.index)) (capped_eq g.action h.action q)

find_leaf : (e : Env) (g : Slot) → g.action < action_most → {E : List Entry} {l : List Item} → Entered E l → at e (find_slot g E) ≡ leaf_at e g l
unfolding find_slot leaf_at at zero_leaf
find_leaf e g q no_entry = refl
find_leaf e g q (one_entry {E = E} {l = l} t x m d) =
    let ih : at e (find_slot g E) ≡ leaf_at e g l = find_leaf e g q d in
    ap (λ (b : Bool). at e (if b t (find_slot g E))) (same_capped g x.slot q)
    ∙ by_test (same_slot g x.slot) (λ b. at e (if b t (find_slot g E)) ≡ if b (item_leaf e x) (leaf_at e g l)) (λ _. m e) (λ _. ih)

find_end : (e : Env) {E : List Entry} {l : List Item} → Entered E l → end_at e (found end_slot E) ≡ end_worth e l
unfolding found end_worth end_at level_at
find_end e no_entry = refl
find_end e (one_entry {E = E} {l = l} t x m d) =
    let ih : end_at e (found end_slot E) ≡ end_worth e l = find_end e d in
    ap (λ (b : Bool). end_at e (if b (t ∷ []) (found end_slot E))) (same_capped end_slot x.slot (omega arith))
    ∙ by_test (same_slot end_slot x.slot) (λ b. end_at e (if b (t ∷ []) (found end_slot E)) ≡ if b (value e (lin_of (item_leaf e x))) (end_worth e l))
    (λ _. ap (λ (f : Leaf). value e (lin_of f)) (m e)) (λ _. ih)

-- ---- actions by their numbers

nth_from : (φ : ℕ → ModelAction) (b k j : ℕ) → j ≤ k → nth_action (φ b) (map φ (from_to (suc b) k)) j ≡ φ (b + j)
unfolding nth_action from_to
nth_from φ b k zero h = ap φ (omega arith)
nth_from φ b zero (suc j) h = absurd (omega arith)
nth_from φ b (suc k) (suc j) h = nth_from φ (suc b) k j (omega arith) ∙ ap φ (omega arith)

numbers_are : (φ : ℕ → ModelAction) (b k : ℕ) → numbers_from b (map φ (from_to b k)) ≡ from_to b k
unfolding numbers_from from_to
numbers_are φ b zero = refl
numbers_are φ b (suc k) = ap (λ (l : List ℕ). b ∷ l) (numbers_are φ (suc b) k)

in_numbers : (φ : ℕ → ModelAction) (b k a : ℕ) → Memᴰ a (numbers_from b (map φ (from_to b k))) → (b ≤ a) × (a < b + k)
unfolding numbers_from from_to
in_numbers φ b zero a m = absurd (Memᴰ.not-nil m)
in_numbers φ b (suc k) a m = ⊎_elim (λ e. (omega (arith, e), omega (arith, e))) (λ n. let r = in_numbers φ (suc b) k a n in (omega (arith, r.0), omega (arith, r.1))) (Memᴰ.cases_cons m)

map_as : {A B C : Type 0} (f : B → C) (g : A → B) (h : A → C) (l : List A) → ((x : A) → f (g x) ≡ h x) → map f (map g l) ≡ map h l
map_as f g h [] q = refl
map_as f g h (x ∷ l) q = ap₂ ◌∷◌ (q x) (map_as f g h l q)

in_from : (b k a : ℕ) → b ≤ a → a < b + k → Memᴰ a (from_to b k)
unfolding from_to
in_from b zero a h l = absurd (omega arith)
in_from b (suc k) a h l = by_test (eqb a b) (λ _. Memᴰ a (b ∷ from_to (suc b) k)) (λ t. Memᴰ.head (eqb→eq a b t)) (λ n. Memᴰ.tail (in_from (suc b) k a (other_above b a h n) (omega arith)))

above : (a : ℕ) → 1 ≤ a → T (not (eqb a 1)) → 2 ≤ a
above a h n = other_above 1 a h n

-- ---- the processes

module _ (S : Site) (E : List Entry) (l : List Item) (d : Entered E l) (least : 1 ≤ S.actions) (most : S.actions < action_most) where
  abbrev M : Model
  M = model_of S E

  in_range : (a : ℕ) → Action (process M) a → (1 ≤ a) × (a ≤ S.actions)
  unfolding model_of process
  in_range a m = ⊎_elim (λ e. (omega (arith, e), omega (arith, e, least)))
      (λ n. let r = in_numbers (action_of S E) 2 (S.actions - 1) a n in (omega (arith, r.0), omega (arith, r.1, least))) (Memᴰ.cases_cons m)

  action_is : (a : ℕ) → Action (process M) a → action_at M a ≡ action_of S E a
  unfolding model_of action_at
  action_is a m = let r = in_range a m in nth_from (action_of S E) 1 (S.actions - 1) (a - 1) (omega (arith, r.1)) ∙ ap (action_of S E) (omega (arith, r.0))

  found_leaf : (e : Env) (a : ℕ) (g : Slot) → g.action ≡ a → Action (process M) a → at e (find_slot g E) ≡ leaf_at e g l
  found_leaf e a g q m = find_leaf e g (omega (arith, q, (in_range a m).1, most)) d

  pub rewards_follow : (e : Env) (a : ℕ) → Action (process M) a → at e (action_at M a).reward ≡ leaf_at e (reward_slot a) l
  unfolding action_of
  rewards_follow e a m = ap (λ (x : ModelAction). at e x.reward) (action_is a m) ∙ found_leaf e a (reward_slot a) refl m

  -- what a function of leaves gives for each chance, and for each next level
  chances_as : {C : Type 0} (φ : Leaf → C) (e : Env) (a : ℕ) → Action (process M) a
      → map (λ t. φ (at e t)) (action_at M a).chances ≡ map (λ k. φ (leaf_at e (chance_slot a k) l)) (from_to 1 S.conditions)
  unfolding action_of
  chances_as φ e a m =
      ap (λ (x : ModelAction). map (λ t. φ (at e t)) x.chances) (action_is a m)
      ∙ map_as (λ t. φ (at e t)) (λ k. find_slot (chance_slot a k) E) (λ k. φ (leaf_at e (chance_slot a k) l)) (from_to 1 S.conditions) (λ k. ap φ (found_leaf e a (chance_slot a k) refl m))

  levels_as : {C : Type 0} (φ : Leaf → C) (e : Env) (a : ℕ) → Action (process M) a
      → map (λ t. φ (at e t)) (action_at M a).levels ≡ map (λ i. φ (leaf_at e (level_slot a i) l)) (from_to 1 S.levels)
  unfolding action_of
  levels_as φ e a m =
      ap (λ (x : ModelAction). map (λ t. φ (at e t)) x.levels) (action_is a m)
      ∙ map_as (λ t. φ (at e t)) (λ i. find_slot (level_slot a i) E) (λ i. φ (leaf_at e (level_slot a i) l)) (from_to 1 S.levels) (λ i. ap φ (found_leaf e a (level_slot a i) refl m))

  pub chances_follow : (e : Env) (a : ℕ) → Action (process M) a → map (at e) (action_at M a).chances ≡ map (λ k. leaf_at e (chance_slot a k) l) (from_to 1 S.conditions)
  chances_follow e a m = chances_as (λ f. f) e a m

  pub levels_follow : (e : Env) (a : ℕ) → Action (process M) a → map (at e) (action_at M a).levels ≡ map (λ i. leaf_at e (level_slot a i) l) (from_to 1 S.levels)
  levels_follow e a m = levels_as (λ f. f) e a m

  pub end_follows : (e : Env) → end_at e M.end ≡ end_worth e l
  unfolding model_of
  end_follows e = find_end e d

  -- 1 to A are the actions
  pub an_action : (a : ℕ) → 1 ≤ a → a ≤ S.actions → Action (process M) a
  unfolding model_of process
  an_action a h k = by_test (eqb a 1) (λ _. Memᴰ a (1 ∷ numbers_from 2 (map (action_of S E) (from_to 2 (S.actions - 1)))))
      (λ t. Memᴰ.head (eqb→eq a 1 t))
      (λ n. Memᴰ.tail (subst (Memᴰ a) (sym (numbers_are (action_of S E) 2 (S.actions - 1))) (in_from 2 (S.actions - 1) a (above a h n) (omega arith))))

  pub processes : Alike (process M) (process_of S l)
  unfolding process_of process model_of worth_at chance_at moved level_at
  processes = record {
    same_first = refl;
    same_others = numbers_are (action_of S E) 2 (S.actions - 1);
    same_settings = refl;
    same_reward = λ h a s m. ap (λ (f : Leaf). weigh (S.weights ^ (S.conditions * suc h)) (leaf_worth (env s []) f)) (rewards_follow (env s []) a m);
    same_weight = λ a s r m. ap (λ (w : List ℕ). weight S.weights w r) (chances_as (λ f. up (lin_of f).const) (env s []) a m);
    same_next = λ a s r m. ap (λ (x : List ℤ). record { conditions = r; nums = x; den = s.den; D>0 = s.D>0 }) (levels_as (λ f. value (env s r) (lin_of f)) (env s r) a m);
    same_end = λ s. end_follows (env s []);
  }
