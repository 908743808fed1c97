-- Without room for a node: loading an accepted model is refused at the first leaf.
use mathlib.Core.Path.{◌≡◌, refl, ap, ◌∙◌, subst}
use mathlib.Core.Logic.{◌⊎◌, inl, inr, ⊎_elim}
use mathlib.Core.List.Memᴰ
use mathlib.Core.List.{List, [], ◌∷◌, Memᴰ}
use Prim.Native.Nat.{ℕ}
use native.Mathlib.Omega.{arith}
use Rattle.theory.specs.Widths.{actions_most}
use Rattle.theory.specs.Computation.{Comp, ret, bind, make, result, Out, stopped, run, member, refused}
use Rattle.theory.specs.Command.{Command, site, push_leaf, push_condition, push_test, push_forbidden, give, name_action, end_model, Read, whole, unknown, short, Placed, readings}
use Rattle.theory.specs.Verdict.{verdict, reward_slot}
use Rattle.theory.specs.Load.{Loaded, load_choice_with, load_entry, load_one, load_one_with, load_on, load_on_with, find_slot, model_of, site_at, load, load_in}
use Rattle.theory.specs.Solve.{solve_in}
use Rattle.theory.proofs.laws.Comps.{after, run_bind}
use Rattle.theory.proofs.laws.Valid.{among_out}
use Rattle.theory.proofs.laws.AcceptedModel.{accepted, entry_trees}
use Rattle.solve_laws.specs.Outcome.{solve_unloaded}

abbrev nothing : Loaded
nothing = record { stack = []; entries = [] }

-- from nothing on: refused, or still nothing
abbrev Idle : Comp Loaded → Type 0
Idle m = (run 0 m [] ≡ stopped 12) ⊎ (m ≡ ret nothing)

one_idle : (c : Command) (k : Loaded → Comp Loaded) → Idle (k nothing) → Idle (bind (load_one c nothing) k)
unfolding load_one_with load_choice_with load_entry bind make run member
one_idle (site m n a w) k h = h
one_idle (push_leaf p) k h = inl refl
one_idle (push_condition j) k h = h
one_idle (push_test p) k h = h
one_idle push_forbidden k h = inl refl
one_idle (give g) k h = h
one_idle (name_action a b) k h = h
one_idle end_model k h = h

all_idle : (l : List Placed) → Idle (load_on l nothing)
unfolding load_on_with
all_idle [] = inr refl
all_idle (x ∷ l) = go x.read (all_idle l)
  where
    go : (r : Read) → Idle (load_on l nothing) → Idle (elim r [ whole c ↦ bind (load_one c nothing) (load_on l) | unknown ↦ ret nothing | short ↦ ret nothing ])
    go (whole c) h = one_idle c (load_on l) h
    go unknown h = inr refl
    go short h = inr refl

-- an accepted model gives a reward
not_idle : (B : List ℕ) → (verdict B).number ≡ 0 → load_on (readings B) nothing ≡ ret nothing → ⊥
unfolding result
not_idle B v e =
    let d = accepted B v in
    let r = among_out actions_most (site_at B).actions d.0.actions_in in
    Memᴰ.not-nil (subst (λ (m : Comp Loaded). Memᴰ (find_slot (reward_slot 1) (result m).entries) (entry_trees (result m).entries)) e (d.1.rewards 1 (omega arith) r.0).loaded)

unloaded : (B : List ℕ) → (verdict B).number ≡ 0 → run 0 (load B) [] ≡ stopped 12
unfolding load_in after
unloaded B v = ⊎_elim
    (λ e. run_bind 0 (load_on (readings B) nothing) _ [] ∙ ap (λ (o : Out Loaded). after o (λ s Y. run 0 (ret (model_of (site_at B) s.entries)) Y)) e)
    (λ e. absurd (not_idle B v e)) (all_idle (readings B))

pub empty_refused : (B : List ℕ) (H : ℕ) → (verdict B).number ≡ 0 → solve_in 0 B H ≡ refused 12 0
empty_refused B H v = solve_unloaded 0 B H 12 (unloaded B v)
