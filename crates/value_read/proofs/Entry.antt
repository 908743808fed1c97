-- The public entry: what the early refusals leave, and the outcome by the model's site and the stage's root.
use mathlib.Core.Path.{◌≡◌, refl, sym, ap, ◌∙◌}
use mathlib.Core.Bool.{Bool, true, false, not}
use mathlib.Core.List.{List}
use Prim.Native.Nat.{ℕ, ◌-◌, ◌≤◌}
use native.Mathlib.Omega.{arith}
use borrow.Author.Tests.{eq-eqb, ne_eqb}
use lib.Dec.{T, eqb, ltb, leb, leb→le, eqb→eq}
use lib.IntN.{ℤ}
use lib.ListN.{length, get_or}
use Rattle.whole.specs.Cases.{if, by_test, both}
use Rattle.theory.specs.Widths.{bytes_most}
use Rattle.theory.specs.Load.{site_at}
use Rattle.theory.specs.Solve.{early}
use Rattle.theory.specs.Valid.{among}
use Rattle.theory.specs.Value.{Asked, ValueOut, refused_value, value_of}
use Rattle.theory.specs.Verdict.{Verdict, Site, refusal, verdict, or}
use Rattle.model.specs.declared.Verdict.{Verdict as CodeVerdict}
use Rattle.model.specs.Answers.{shown}
use Rattle.model_progress.specs.declared.Site.{Site as CodeSite}
use Rattle.model_progress.specs.GivenFlags.{site_as}
use Rattle.value_walk.specs.Out.{value_after}

-- ---- the early refusals

neither : (a b : Bool) → T (not (or a b)) → T (not a) × T (not b)
neither true b t = absurd t
neither false b t = (tt, t)

not_not : (b : Bool) → T (not (not b)) → T b
not_not true t = t
not_not false t = absurd t

-- what is left: eight stage words, and steps 1 to 8
pub record Left (steps words : ℕ) : Type 0 where
  pub eight : words ≡ 8
  pub some : 1 ≤ steps
  pub few : steps ≤ 8

left_by : (B : List ℕ) (steps words : ℕ) → (early B steps words).number ≡ 0 → Left steps words
unfolding early among
left_by B steps words =
    by_test (or (not (eqb words 8)) (ltb bytes_most (length B))) (λ b. (if b (refusal 10 0) (if (not (among 8 steps)) (refusal 9 0) (verdict B))).number ≡ 0 → Left steps words)
    (λ t e. absurd (omega arith))
    (λ t. by_test (not (among 8 steps)) (λ b. (if b (refusal 9 0) (verdict B)).number ≡ 0 → Left steps words)
    (λ u e. absurd (omega arith))
    (λ u e. let p = both (leb 1 steps) (leb steps 8) (not_not (among 8 steps) u) in
    record { eight = eqb→eq words 8 (not_not (eqb words 8) (neither (not (eqb words 8)) (ltb bytes_most (length B)) t).0); some = leb→le 1 steps p.0; few = leb→le steps 8 p.1 }))

pub left_of : (B : List ℕ) (steps words : ℕ) {v : CodeVerdict} → shown v ≡ early B steps words → v.number ≡ 0 → Left steps words
left_of B steps words e z = left_by B steps words (ap (λ (w : Verdict). w.number) (sym e) ∙ z)

-- ---- the outcome

module _ (B : List ℕ) (nodes : List ℤ) (stages : List ℕ) (steps : ℕ) (q : Asked) where
  abbrev from : Verdict → Site → ValueOut
  from w S = if (eqb w.number 0) (value_after S.levels S.conditions S.actions nodes (get_or stages (steps - 1) 0) q) (refused_value w.number w.place)

  from_is : from (early B steps (length stages)) (site_at B) ≡ value_of B nodes stages steps q
  unfolding value_of value_after
  from_is = refl

  pub refused_early : {v : CodeVerdict} → shown v ≡ early B steps (length stages) → (v.number ≡ 0 → ⊥) → {x : ValueOut} → x ≡ refused_value v.number v.place → x ≡ value_of B nodes stages steps q
  refused_early {v} e z p =
      p ∙ ap (λ (b : Bool). if b (value_after (site_at B).levels (site_at B).conditions (site_at B).actions nodes (get_or stages (steps - 1) 0) q) (refused_value v.number v.place)) (sym (ne_eqb v.number 0 z))
      ∙ ap (λ (w : Verdict). from w (site_at B)) e ∙ from_is

  pub read_early : {v : CodeVerdict} → shown v ≡ early B steps (length stages) → v.number ≡ 0 → {s : CodeSite} → site_as s ≡ site_at B → {p : Asked} → p ≡ q → {x : ValueOut}
      → x ≡ value_after s.levels s.conditions s.actions nodes (get_or stages (steps - 1) 0) p → x ≡ value_of B nodes stages steps q
  read_early {v} e z {s} f g u =
      u ∙ ap (value_after s.levels s.conditions s.actions nodes (get_or stages (steps - 1) 0)) g
      ∙ ap (λ (b : Bool). if b (value_after s.levels s.conditions s.actions nodes (get_or stages (steps - 1) 0) q) (refused_value v.number v.place)) (sym (eq-eqb v.number 0 z))
      ∙ ap (from (shown v)) f ∙ ap (λ (w : Verdict). from w (site_at B)) e ∙ from_is
