-- Loading by any rule that picks the branch its test picks comes to one decision process: that of the model as it is spelled.
use Rattle.std.specs.Prelude.{◌≡◌, ℕ, zero, suc, ◌-◌}
use Rattle.std.proofs.Math.Path.{refl, ap₂, subst}
use Rattle.std.proofs.Common.{sym, ap, ◌∙◌}
use mathlib.Core.List.{List, [], ◌∷◌, map}
use Rattle.whole.specs.Cases.{if, by_test}
use Rattle.whole.specs.Int.{up}
use Rattle.theory.specs.Diagram.{Test, Leaf, lin_of, Tree, branch, test_of}
use Rattle.theory.specs.Computation.{Comp, ret, bind, make, result}
use Rattle.theory.specs.Rules.{choose}
use Rattle.theory.specs.Total.{weigh}
use Rattle.theory.specs.Meaning.{Action, nth_action, action_at, numbers_from, Env, env, value, holds, at, leaf_worth, worth_at, level_at, end_at, chance_at, weight, moved, settings, power, process}
use Rattle.theory.specs.Command.{Command, site, push_leaf, push_condition, push_test, push_forbidden, give, name_action, end_model, Read, whole, unknown, short, Placed, readings, Slot}
use Rattle.theory.specs.Verdict.{Site, same_slot, reward_slot, chance_slot, level_slot, end_slot, from_to}
use Rattle.theory.specs.Load.{Entry, Loaded, condition_test, load_entry, load_choice_with, load_one_with, load_on_with, find_slot, found, action_of, model_of, site_at, load_with, model, spelled, load_in, model_in}
use Rattle.theory.proofs.laws.Comps.{result_bind}
use Rattle.theory.proofs.laws.Values.{Makes, choose_at}
use Rattle.theorems.specs.Demands.{SpelledSame}

-- ---- diagrams that come to one leaf at every state

abbrev Like : Tree → Tree → Type 0
Like F G = (e : Env) → at e F ≡ at e G

-- .. one by one
abbrev LikeAll : List Tree → List Tree → Type 0
LikeAll [] [] = Unit {0}
LikeAll [] (G ∷ L) = ⊥
LikeAll (F ∷ K) [] = ⊥
LikeAll (F ∷ K) (G ∷ L) = Like F G × LikeAll K L

-- .. given as the same
abbrev LikeGiven : List Entry → List Entry → Type 0
LikeGiven [] [] = Unit {0}
LikeGiven [] (y ∷ D) = ⊥
LikeGiven (x ∷ E) [] = ⊥
LikeGiven (x ∷ E) (y ∷ D) = (x.slot ≡ y.slot) × (Like x.tree y.tree × LikeGiven E D)

abbrev LikeLoaded : Loaded → Loaded → Type 0
LikeLoaded s u = LikeAll s.stack u.stack × LikeGiven s.entries u.entries

-- ---- loading

abbrev written : Test → Tree → Tree → Comp Tree
written t h l = ret (branch t h l)

module _ (by : Test → Tree → Tree → Comp Tree) (ok : (e : Env) → Makes e by) where
  made_like : (t : Test) (h l p q : Tree) → Like h p → Like l q → Like (result (by t h l)) (branch t p q)
  unfolding at
  made_like t h l p q a b e = ok e t h l ∙ ap₂ (λ (x y : Leaf). if (holds e t) x y) (a e) (b e)

  choice_like : (t : Test) (K L : List Tree) (E D : List Entry) → LikeAll K L → LikeGiven E D → LikeLoaded (result (load_choice_with by t K E)) (result (load_choice_with written t L D))
  unfolding load_choice_with result bind
  choice_like t [] [] E D k e = (tt, e)
  choice_like t [] (y ∷ L) E D k e = absurd k
  choice_like t (x ∷ K) [] E D k e = absurd k
  choice_like t (x ∷ []) (y ∷ []) E D k e = (tt, e)
  choice_like t (x ∷ []) (y ∷ p ∷ L) E D k e = absurd k.1
  choice_like t (x ∷ h ∷ K) (y ∷ []) E D k e = absurd k.1
  choice_like t (x ∷ h ∷ K) (y ∷ p ∷ L) E D k e = subst (λ (s : Loaded). LikeLoaded s (record { stack = branch t p y ∷ L; entries = D }))
      (sym (result_bind (by t h x) (λ r. ret (record { stack = r ∷ K; entries = E })))) ((made_like t h x p y k.1.0 k.0, k.1.1), e)

  entry_like : (g : Slot) (K L : List Tree) (E D : List Entry) → LikeAll K L → LikeGiven E D → LikeLoaded (result (load_entry g K E)) (result (load_entry g L D))
  unfolding load_entry result
  entry_like g [] [] E D k e = (tt, e)
  entry_like g [] (y ∷ L) E D k e = absurd k
  entry_like g (x ∷ K) [] E D k e = absurd k
  entry_like g (x ∷ K) (y ∷ L) E D k e = (k.1, (refl, (k.0, e)))

  one_like : (c : Command) (s u : Loaded) → LikeLoaded s u → LikeLoaded (result (load_one_with by c s)) (result (load_one_with written c u))
  unfolding load_one_with result bind make
  one_like (site m n a w) s u d = d
  one_like (push_leaf p) s u d = ((λ e. refl, d.0), d.1)
  one_like (push_condition k) s u d = choice_like (condition_test k) s.stack u.stack s.entries u.entries d.0 d.1
  one_like (push_test p) s u d = choice_like (test_of p) s.stack u.stack s.entries u.entries d.0 d.1
  one_like push_forbidden s u d = ((λ e. refl, d.0), d.1)
  one_like (give g) s u d = entry_like g s.stack u.stack s.entries u.entries d.0 d.1
  one_like (name_action a b) s u d = d
  one_like end_model s u d = d

  on_like : (l : List Placed) (s u : Loaded) → LikeLoaded s u → LikeLoaded (result (load_on_with by l s)) (result (load_on_with written l u))
  unfolding load_on_with result
  on_like [] s u d = d
  on_like (x ∷ l) s u d = go x.read (λ s u d. on_like l s u d)
    where
      go : (r : Read) → ((s u : Loaded) → LikeLoaded s u → LikeLoaded (result (load_on_with by l s)) (result (load_on_with written l u)))
          → LikeLoaded (result (elim r [ whole c ↦ bind (load_one_with by c s) (load_on_with by l) | unknown ↦ ret s | short ↦ ret s ]))
          (result (elim r [ whole c ↦ bind (load_one_with written c u) (load_on_with written l) | unknown ↦ ret u | short ↦ ret u ]))
      go (whole c) ih = rw (result_bind (load_one_with by c s) (load_on_with by l), result_bind (load_one_with written c u) (load_on_with written l))
          (ih (result (load_one_with by c s)) (result (load_one_with written c u)) (one_like c s u d))
      go unknown ih = d
      go short ih = d

-- ---- the model of what was given

found_like : (g : Slot) (E D : List Entry) → LikeGiven E D → Like (find_slot g E) (find_slot g D)
unfolding find_slot
found_like g [] [] k e = refl
found_like g [] (y ∷ D) k e = absurd k
found_like g (x ∷ E) [] k e = absurd k
found_like g (x ∷ E) (y ∷ D) k e =
    ap (λ (h : Slot). at e (if (same_slot g h) x.tree (find_slot g E))) k.0
    ∙ by_test (same_slot g y.slot) (λ b. at e (if b x.tree (find_slot g E)) ≡ at e (if b y.tree (find_slot g D))) (λ _. k.1.0 e) (λ _. found_like g E D k.1.1 e)

-- .. and where it need not have been given
end_like : (g : Slot) (E D : List Entry) → LikeGiven E D → LikeAll (found g E) (found g D)
unfolding found
end_like g [] [] k = tt
end_like g [] (y ∷ D) k = absurd k
end_like g (x ∷ E) [] k = absurd k
end_like g (x ∷ E) (y ∷ D) k = subst (λ (h : Slot). LikeAll (if (same_slot g h) (x.tree ∷ []) (found g E)) (if (same_slot g y.slot) (y.tree ∷ []) (found g D))) (sym k.0)
    (by_test (same_slot g y.slot) (λ b. LikeAll (if b (x.tree ∷ []) (found g E)) (if b (y.tree ∷ []) (found g D))) (λ _. (k.1.0, tt)) (λ _. end_like g E D k.1.1))

abbrev LikeAction : Action → Action → Type 0
LikeAction x y = Like x.reward y.reward × (LikeAll x.chances y.chances × LikeAll x.levels y.levels)

each_like : (f g : ℕ → Tree) → ((k : ℕ) → Like (f k) (g k)) → (l : List ℕ) → LikeAll (map f l) (map g l)
each_like f g h [] = tt
each_like f g h (k ∷ l) = (h k, each_like f g h l)

nth_like : (f g : ℕ → Action) → ((k : ℕ) → LikeAction (f k) (g k)) → (b : ℕ) (l : List ℕ) (k : ℕ) → LikeAction (nth_action (f b) (map f l) k) (nth_action (g b) (map g l) k)
unfolding nth_action
nth_like f g h b l zero = h b
nth_like f g h b [] (suc k) = h b
nth_like f g h b (c ∷ l) (suc k) = nth_like f g h c l k

numbers_like : (f g : ℕ → Action) (a : ℕ) (l : List ℕ) → numbers_from a (map f l) ≡ numbers_from a (map g l)
unfolding numbers_from
numbers_like f g a [] = refl
numbers_like f g a (k ∷ l) = ap (λ (r : List ℕ). a ∷ r) (numbers_like f g (suc a) l)

-- what is made of the leaves that diagrams come to
map_like : {A : Type 0} (h : Leaf → A) (e : Env) (K L : List Tree) → LikeAll K L → map (λ (F : Tree). h (at e F)) K ≡ map (λ (F : Tree). h (at e F)) L
map_like h e [] [] d = refl
map_like h e [] (G ∷ L) d = absurd d
map_like h e (F ∷ K) [] d = absurd d
map_like h e (F ∷ K) (G ∷ L) d = ap₂ ◌∷◌ (ap h (d.0 e)) (map_like h e K L d.1)

end_at_like : (e : Env) (K L : List Tree) → LikeAll K L → end_at e K ≡ end_at e L
unfolding end_at level_at
end_at_like e [] [] d = refl
end_at_like e [] (G ∷ L) d = absurd d
end_at_like e (F ∷ K) [] d = absurd d
end_at_like e (F ∷ K) (G ∷ L) d = ap (λ (f : Leaf). value e (lin_of f)) (d.0 e)

module _ (S : Site) (E D : List Entry) (d : LikeGiven E D) where
  action_like : (a : ℕ) → LikeAction (action_of S E a) (action_of S D a)
  unfolding action_of
  action_like a = (
    found_like (reward_slot a) E D d,
    (
      each_like _ _ (λ k. found_like (chance_slot a k) E D d) (from_to 1 S.conditions),
      each_like _ _ (λ i. found_like (level_slot a i) E D d) (from_to 1 S.levels),
    ),
  )

  at_like : (a : ℕ) → LikeAction (action_at (model_of S E) a) (action_at (model_of S D) a)
  unfolding action_at model_of
  at_like a = nth_like (action_of S E) (action_of S D) action_like 1 (from_to 2 (S.actions - 1)) (a - 1)

  process_like : process (model_of S E) ≡ process (model_of S D)
  unfolding process model_of moved worth_at level_at chance_at
  process_like = λ i. record {
    first = 1;
    others = numbers_like (action_of S E) (action_of S D) 2 (from_to 2 (S.actions - 1)) i;
    settings = settings S.conditions;
    reward = λ h a s. weigh (power (model_of S E) (suc h)) (leaf_worth (env s []) ((at_like a).0 (env s []) i));
    weight = λ a s r. weight S.weights (map_like (λ (f : Leaf). up (lin_of f).const) (env s []) (action_at (model_of S E) a).chances (action_at (model_of S D) a).chances (at_like a).1.0 i) r;
    next = λ a s r. record { conditions = r; nums = map_like (λ (f : Leaf). value (env s r) (lin_of f)) (env s r) (action_at (model_of S E) a).levels (action_at (model_of S D) a).levels (at_like a).1.1 i; den = s.den; D>0 = s.D>0 };
    end = λ s. end_at_like (env s []) (found end_slot E) (found end_slot D) (end_like end_slot E D d) i;
  }

-- a model that is loaded by such a rule
pub loaded_like : (by : Test → Tree → Tree → Comp Tree) → ((e : Env) → Makes e by) → (B : List ℕ) → process (result (load_with by B)) ≡ process (spelled B)
unfolding spelled load_in result
loaded_like by ok B =
    let none : Loaded = record { stack = []; entries = [] } in
    let d = on_like by ok (readings B) none none (tt, tt) in
    ap process (result_bind (load_on_with by (readings B) none) _)
    ∙ (process_like (site_at B) _ _ d.1
    ∙ ap process (sym (result_bind (load_on_with written (readings B) none) _)))

pub spelled_same : SpelledSame
unfolding model_in
spelled_same B = loaded_like choose choose_at B
