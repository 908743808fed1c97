-- The public entry: what the refusals leave, and the state that is asked for.
use mathlib.Core.Path.{◌≡◌, refl, sym, ap, ◌∙◌}
use mathlib.Core.Bool.{Bool, true, false, ◌&&◌}
use mathlib.Core.List.{List, [], ◌∷◌}
use Prim.Native.Nat.{ℕ, zero, suc, ◌≤◌, ◌^◌}
use native.Mathlib.Omega.{arith}
use borrow.Author.Tests.{eq-eqb, ne_eqb}
use lib.Dec.{T, compare_is_eq, eqb, ltb}
use lib.IntN.{ℤ, pos, negsuc}
use lib.ListN.{get_or, take, drop}
use lib.Seq.{get_or-take}
use lib.Signed.{le_z}
use Rattle.whole.specs.Cases.{if, both, from_true}
use Rattle.whole.specs.Int.{up}
use Rattle.theory.specs.Widths.{levels_most}
use Rattle.theory.specs.Diagram.{cmp_ℤ, zeros}
use Rattle.theory.proofs.laws.Comps.{cmp_ℤ_eq}
use Rattle.theory.specs.Meaning.{State}
use Rattle.theory.specs.Load.{site_at, model}
use Rattle.theory.specs.Solve.{early}
use Rattle.theory.specs.Value.{Asked, accepted, state_of, ValueOut, refused_value}
use Rattle.theory.specs.Verdict.{Verdict}
use Rattle.theory.specs.Plain.{state_worth, worth_out, if_true, plain_of}
use Rattle.model.specs.declared.Verdict.{Verdict as CodeVerdict}
use Rattle.model.specs.Answers.{shown}
use Rattle.model.proofs.Accepted.{Passed, early_passed}
use Rattle.value_walk.specs.State.{asked}
use Rattle.value_walk.specs.declared.Asked.{Asked as CodeAsked}
use Rattle.plain_pass.specs.declared.Point.{Point}
use Rattle.plain_limits.specs.declared.Total.{Total}
use Rattle.plain_limits.specs.Totals.{total_of}
use Rattle.plain_step.specs.PointState.{ModelReady, Spells, FitsSite, StandingPoint}
use Rattle.plain_step.proofs.Lists.{within_widths}
use Rattle.plain_worth.specs.Worths.{point_of, StateWorth}

if_yes : {A : Type 0} (b : Bool) (f : T b → A) (x : A) (t : T b) → if_true b f x ≡ f t
unfolding if_true
if_yes true f x t = refl
if_yes false f x t = absurd t

if_no : {A : Type 0} (b : Bool) (f : T b → A) (x : A) → b ≡ false → if_true b f x ≡ x
unfolding if_true
if_no true f x e = absurd (let z : ◌≡◌ {A = ℕ} 0 1 = cc in omega arith)
if_no false f x e = refl

pos_up : (z : ℤ) → T (le_z (pos 1) z) → pos (up z) ≡ z
pos_up (pos n) t = refl
pos_up (negsuc n) t = absurd t

-- zeros from some number on
zeros_at : (m : ℕ) (l : List ℤ) (k : ℕ) → T (zeros (drop m l)) → m ≤ k → get_or l k (pos 0) ≡ pos 0
unfolding zeros
zeros_at m [] k t h = refl
zeros_at zero (z ∷ l) zero t h = cmp_ℤ_eq z (pos 0) (both (compare_is_eq (cmp_ℤ z (pos 0))) (zeros l) t).0
zeros_at zero (z ∷ l) (suc k) t h = zeros_at zero l k (both (compare_is_eq (cmp_ℤ z (pos 0))) (zeros l) t).1 (omega arith)
zeros_at (suc m) (z ∷ l) zero t h = absurd (omega arith)
zeros_at (suc m) (z ∷ l) (suc k) t h = zeros_at m l k t (omega arith)

module _ (B : List ℕ) (steps : ℕ) {v : CodeVerdict} (e : shown v ≡ early B steps 8) where
  abbrev worked : Asked → ValueOut
  worked q = if_true (accepted (site_at B).levels (site_at B).conditions q) (λ t. worth_out (state_worth (model B) steps (state_of (site_at B).levels (site_at B).conditions q t))) (refused_value 13 0)

  from_is : (q : Asked) → if (eqb v.number 0) (worked q) (refused_value v.number v.place) ≡ plain_of B steps q
  unfolding plain_of
  from_is q = ap (λ (w : Verdict). if (eqb w.number 0) (worked q) (refused_value w.number w.place)) e

  pub refused_early : (q : Asked) → (v.number ≡ 0 → ⊥) → {x : ValueOut} → x ≡ refused_value v.number v.place → x ≡ plain_of B steps q
  refused_early q z p = p ∙ ap (λ (b : Bool). if b (worked q) (refused_value v.number v.place)) (sym (ne_eqb v.number 0 z)) ∙ from_is q

  module _ (z : v.number ≡ 0) where
    pub passed : Passed B steps 8
    passed = early_passed B steps 8 (ap (λ (w : Verdict). w.number) (sym e) ∙ z)

    ready : ModelReady B
    ready = record { accepted = passed.accepted; short = omega (arith, passed.size) }

    onward : (q : Asked) {x : ValueOut} → x ≡ worked q → x ≡ plain_of B steps q
    onward q p = p ∙ ap (λ (b : Bool). if b (worked q) (refused_value v.number v.place)) (sym (eq-eqb v.number 0 z)) ∙ from_is q

    module _ (a : CodeAsked) {m n : ℕ} (em : m ≡ (site_at B).levels) (en : n ≡ (site_at B).conditions) {b : Bool} (eb : b ≡ accepted m n (asked a)) where
      judged : b ≡ accepted (site_at B).levels (site_at B).conditions (asked a)
      judged = eb ∙ (λ i. accepted (em i) (en i) (asked a))

      pub refused_state : b ≡ false → {o : ValueOut} → o ≡ refused_value 13 0 → o ≡ plain_of B steps (asked a)
      refused_state f p = onward (asked a) (p ∙ sym (if_no (accepted (site_at B).levels (site_at B).conditions (asked a)) _ (refused_value 13 0) (sym judged ∙ f)))

      module _ (f : b ≡ true) where
        holds : T (accepted (site_at B).levels (site_at B).conditions (asked a))
        holds = from_true (sym judged ∙ f)

        abbrev s : State
        s = state_of (site_at B).levels (site_at B).conditions (asked a) holds

        spells : Spells (site_at B) (point_of m a) s
        unfolding state_of accepted
        spells = record {
          conditions_are = refl;
          nums_are = refl;
          den_is = pos_up (asked a).den (both (le_z (pos 1) (asked a).den) (ltb a.mask (2 ^ (site_at B).conditions) && zeros (drop (site_at B).levels (asked a).nums)) holds).0;
        }

        few : m ≤ levels_most
        few = omega (arith, em, (within_widths B ready).1)

        -- the numerators beyond the levels
        zero_rest : T (zeros (drop m (take levels_most a.n)))
        unfolding accepted
        zero_rest =
            rw em (both (ltb a.mask (2 ^ (site_at B).conditions)) (zeros (drop (site_at B).levels (asked a).nums))
            (both (le_z (pos 1) (asked a).den) (ltb a.mask (2 ^ (site_at B).conditions) && zeros (drop (site_at B).levels (asked a).nums)) holds).1).1

        fits : FitsSite (site_at B) (point_of m a)
        fits = record {
          flat = record { few = few; rest = λ k u w. sym (get_or-take levels_most a.n k (pos 0) w) ∙ zeros_at m (take levels_most a.n) k zero_rest u };
          few = omega (arith, em);
        }

        pub stands : {x : Point} → x ≡ point_of m a → StandingPoint B x
        stands e = rw e (record { ready = ready; alone = refl; fits = fits; state = s; spells = spells })

        pub answered : {x : Point} → x ≡ point_of m a → {t : Total} → StateWorth B steps x t → {o : ValueOut} → o ≡ worth_out (total_of t) → o ≡ plain_of B steps (asked a)
        answered e W p = onward (asked a) (p ∙ ap worth_out (W.is s (rw e spells)) ∙ sym (if_yes (accepted (site_at B).levels (site_at B).conditions (asked a)) _ (refused_value 13 0) holds))
