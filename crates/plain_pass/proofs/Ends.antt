-- The end worth need not be given: where none is, the pass comes to the site, which is no leaf, and the diagram found is the leaf 0.
use mathlib.Core.Path.{◌≡◌, refl, sym, ap, ◌∙◌, subst}
use mathlib.Core.Bool.{Bool}
use mathlib.Core.List.{List, [], ◌∷◌}
use Prim.Native.Nat.{ℕ, ◌<◌}
use lib.Dec.{T}
use lib.IntN.{pos}
use lib.ListN.{length, get_or}
use Rattle.whole.specs.Cases.{if, by_test}
use Rattle.whole.specs.Int.{ring}
use Rattle.theory.specs.Widths.{levels_most}
use Rattle.theory.specs.Diagram.{zeros, no_coeffs, zero_linear, lin_of}
use Rattle.theory.specs.Meaning.{State, Env, env, level_at, end_at}
use Rattle.theory.specs.Command.{Read, Slot, read_at}
use Rattle.theory.specs.Verdict.{same_slot, verdict}
use Rattle.theory.specs.Load.{Entry, find_slot, found, site_at}
use Rattle.theory.proofs.laws.Values.{zero_level}
use Rattle.theory.specs.Load.{loaded_entries}
use Rattle.plain_pass.specs.declared.Point.{Point}
use Rattle.plain_pass.specs.Pass.{nums_of, no_name, FlatPoint, leaf_of, numerator, StateStands}
use Rattle.plain_pass.specs.Parts.{place, Seek, Asks, Parts}
use Rattle.plain_pass.proofs.Reach.{pass_comes}
use Rattle.plain_pass.proofs.Points.{dot_zeros}
use Rattle.plain_pass.proofs.Turns.{level_is}
use Rattle.plain_pass.proofs.Finds.{First, first}

-- the diagram of a slot, the leaf 0 where none is given, comes to what is meant
pub found_worth : (e : Env) (g : Slot) (E : List Entry) → level_at e (find_slot g E) ≡ end_at e (found g E)
unfolding find_slot found end_at
found_worth e g [] = zero_level e
found_worth e g (x ∷ E) = by_test (same_slot g x.slot) (λ b. level_at e (if b x.tree (find_slot g E)) ≡ end_at e (if b (x.tree ∷ []) (found g E))) (λ _. refl) (λ _. found_worth e g E)

pub none_worth : (x : Point) → numerator x zero_linear ≡ pos 0
unfolding numerator zeros no_coeffs
none_worth x = rw (dot_zeros (no_coeffs levels_most) (nums_of x) tt) (simp ring)

no_leaf_first : (B : List ℕ) → First B → zero_linear ≡ lin_of (leaf_of (read_at B 0))
unfolding leaf_of lin_of
no_leaf_first B f = ap (λ (r : Read). lin_of (leaf_of r)) f.reads

-- a slot that has no word
pub absent_worth : (B t : List ℕ) (g : Slot) (x : Point) → (verdict B).number ≡ 0 → T (no_name g) → Parts B t → place g < length t → get_or t (place g) 0 ≡ 0
    → (s : State) (r : List Bool) → StateStands (site_at B).levels (site_at B).conditions x s r → pos 0 ≡ end_at (env s r) (found g (loaded_entries B))
absent_worth B t g x v n p u z s r st =
    sym (none_worth x) ∙ level_is B g x 0 (pass_comes B x g 0 v n (p.absent g x u z)) s r st zero_linear (no_leaf_first B (first B v)) ∙ found_worth (env s r) g (loaded_entries B)

-- a pass from a slot's part
pub part_asks : (B t : List ℕ) (g : Slot) (x : Point) (b : ℕ) → (verdict B).number ≡ 0 → length B < 4294967296 → T (no_name g) → Parts B t → FlatPoint x
    → b ≡ get_or t (place g) 0 → Asks B g b x
part_asks B t g x b v s n p f e = record { accepted = v; short = s; diagram = n; seeks = subst (λ (k : ℕ). Seek B x g k []) (sym e) (p.begins g x); flat = f }
