-- What an answer of number 0 says: for the crates that go on with an accepted model.
use mathlib.Core.Path.{◌≡◌, refl, sym, ap, ◌∙◌, subst}
use mathlib.Core.Bool.{Bool, true, false, not}
use mathlib.Core.List.{List, [], ◌∷◌}
use Prim.Native.Nat.{ℕ, zero, suc, ◌+◌, ◌≤◌}
use native.Mathlib.Omega.{arith}
use borrow.Author.Tests.{ne_eqb, eqb-true, ltb-false}
use lib.Dec.{eqb, ltb}
use lib.ListN.{length}
use Rattle.whole.specs.Cases.{if}
use Rattle.theory.specs.Widths.{conditions_most, weights_most, bytes_most, steps_most}
use Rattle.theory.specs.Form.{Form, old_form, new_form, site_byte, levels_in, actions_in, action_bytes}
use Rattle.theory.specs.Valid.{among}
use Rattle.theory.specs.Command.{Command, site, push_leaf, push_condition, push_test, push_forbidden, give, name_action, end_model, Read, whole, unknown}
use Rattle.theory.specs.Command.{short, byte_at, action_at, width_in, command_in, read_in, goes_on, readings_from_in, readings_in}
use Rattle.theory.specs.Verdict.{or, Site, site_of, Verdict, refusal, verdict, verdict_in, judged_in, at_start, rule, Rule, first_broken, first_rules, site_rules, rules_in, ended, after}
use Rattle.theory.specs.Load.{site_at, site_in}
use Rattle.theory.specs.Solve.{early}
use Rattle.model_command.proofs.Forward.{whole_bytes}
use Rattle.model_progress.proofs.Numbers.{bounds, not_false_T}
use Rattle.model.specs.declared.Verdict.{Verdict as CodeVerdict}
use Rattle.model.specs.Answers.{shown}
use Rattle.model.proofs.Walk.{from_first_in}

-- the fields of an answer are those of the verdict that it shows
module _ (v : CodeVerdict) (o : Verdict) (e : shown v ≡ o) where
  pub number_is : v.number ≡ o.number
  number_is = ap (λ (x : Verdict). x.number) e

  pub place_is : v.place ≡ o.place
  place_is = ap (λ (x : Verdict). x.place) e

  pub passed : v.number ≡ 0 → o.number ≡ 0
  passed z = sym number_is ∙ z

-- ---- no early refusal

pub record Passed (B : List ℕ) (n w : ℕ) : Type 0 where
  pub words : w ≡ steps_most
  pub size : length B ≤ bytes_most
  pub steps : (1 ≤ n) × (n ≤ steps_most)
  pub accepted : (verdict B).number ≡ 0

-- neither 10 nor 9 nor the model's own
pub early_passed : (B : List ℕ) (steps words : ℕ) → (early B steps words).number ≡ 0 → Passed B steps words
unfolding early
early_passed B n w e = go (eqb w steps_most) (ltb bytes_most (length B)) (among steps_most n) refl refl refl e
  where
    go : (a b c : Bool) → eqb w steps_most ≡ a → ltb bytes_most (length B) ≡ b → among steps_most n ≡ c
        → (if (or (not a) b) (refusal 10 0) (if (not c) (refusal 9 0) (verdict B))).number ≡ 0 → Passed B n w
    go false b c e₁ e₂ e₃ e = absurd (let z : ◌≡◌ {A = ℕ} 0 10 = sym e in omega arith)
    go true true c e₁ e₂ e₃ e = absurd (let z : ◌≡◌ {A = ℕ} 0 10 = sym e in omega arith)
    go true false false e₁ e₂ e₃ e = absurd (let z : ◌≡◌ {A = ℕ} 0 9 = sym e in omega arith)
    go true false true e₁ e₂ e₃ e = record {
      words = eqb-true w steps_most e₁;
      size = ltb-false bytes_most (length B) e₂;
      steps = bounds steps_most n (rw e₃ tt);
      accepted = e;
    }

-- ---- the site of an accepted model

pub record SitedIn (form : Form) (S : Site) : Type 0 where
  pub levels : (1 ≤ S.levels) × (S.levels ≤ levels_in form)
  pub conditions : S.conditions ≤ conditions_most
  pub actions : (1 ≤ S.actions) × (S.actions ≤ actions_in form)
  pub weights : (1 ≤ S.weights) × (S.weights ≤ weights_most)

-- in the form that the planner reads
abbrev pub Sited : Site → Type 0
Sited = SitedIn new_form

passes : (b : Bool) (l : List Rule) → first_broken (rule 4 b ∷ l) ≡ 0 → (b ≡ false) × (first_broken l ≡ 0)
unfolding first_broken
passes true l e = absurd (let z : ◌≡◌ {A = ℕ} 0 4 = sym e in omega arith)
passes false l e = (refl, e)

good_site : (form : Form) (S : Site) → first_broken (site_rules form S) ≡ 0 → SitedIn form S
unfolding site_rules
good_site form S u =
    let a = passes _ _ u in
    let b = passes _ _ a.1 in
    let c = passes _ _ b.1 in
    let d = passes _ _ c.1 in
    record {
      levels = bounds (levels_in form) S.levels (not_false_T (among (levels_in form) S.levels) a.0);
      conditions = ltb-false conditions_most S.conditions b.0;
      actions = bounds (actions_in form) S.actions (not_false_T (among (actions_in form) S.actions) c.0);
      weights = bounds weights_most S.weights (not_false_T (among weights_most S.weights) d.0);
    }

is_site : Command → Bool
is_site (site m n a w) = true
is_site (push_leaf p) = false
is_site (push_condition k) = false
is_site (push_test p) = false
is_site push_forbidden = false
is_site (give g) = false
is_site (name_action a b) = false
is_site end_model = false

neither_site : (b : Bool) (c d : Command) → is_site c ≡ false → is_site d ≡ false → is_site (if b c d) ≡ false
neither_site true c d e f = e
neither_site false c d e f = f

site_first : (b : Bool) (x y z t m n a w : ℕ) (d : Command) → is_site d ≡ false → site m n a w ≡ if b (site x y z t) d → site_of m n a w ≡ site_of x y z t
unfolding is_site
site_first true x y z t m n a w d f e = cc
site_first false x y z t m n a w d f e = absurd (let q : true ≡ false = ap is_site e ∙ f in let r : ◌≡◌ {A = ℕ} 0 1 = cc in omega arith)

-- the operands of a site are the bytes behind it
operands : (form : Form) (B : List ℕ) (at m n a w : ℕ) → site m n a w ≡ command_in form B at
    → site_of m n a w ≡ site_of (byte_at B (at + 1)) (byte_at B (at + 2)) (action_at form B (at + 3)) (byte_at B (at + (3 + action_bytes form)))
unfolding command_in is_site
operands form B at m n a w e =
    site_first (eqb (byte_at B at) (site_byte form)) _ _ _ _ m n a w _
    (neither_site (eqb (byte_at B at) 0x10) _ _ refl
    (neither_site (eqb (byte_at B at) 0x11) _ _ refl
    (neither_site (eqb (byte_at B at) 0x12) _ _ refl
    (neither_site (eqb (byte_at B at) 0x13) _ _ refl
    (neither_site (eqb (byte_at B at) 0x20) _ _ refl
    (neither_site (eqb (byte_at B at) 0x21) _ _ refl
    (neither_site (eqb (byte_at B at) 0x22) _ _ refl
    (neither_site (eqb (byte_at B at) 0x23) _ _ refl
    (neither_site (eqb (byte_at B at) 0x30) _ _ refl refl))))))))) e

-- a first command that breaks no rule is a site
no_site : first_broken (rule 1 true ∷ []) ≡ 0 → ⊥
unfolding first_broken
no_site u = let z : ◌≡◌ {A = ℕ} 0 1 = sym u in omega arith

at_zero : (form : Form) (B : List ℕ) → site_of (byte_at B (0 + 1)) (byte_at B (0 + 2)) (action_at form B (0 + 3)) (byte_at B (0 + (3 + action_bytes form))) ≡ site_in form B
unfolding site_in
at_zero old_form B = refl
at_zero new_form B = refl

first_site : (form : Form) (B : List ℕ) (c : Command) → whole c ≡ read_in form B 0 → first_broken (first_rules form c) ≡ 0 → SitedIn form (site_in form B)
unfolding first_rules
first_site form B (site m n a w) e u = subst (SitedIn form) (operands form B 0 m n a w (whole_bytes form B 0 (site m n a w) e).1 ∙ at_zero form B) (good_site form (site_of m n a w) u)
first_site form B (push_leaf p) e u = absurd (no_site u)
first_site form B (push_condition k) e u = absurd (no_site u)
first_site form B (push_test p) e u = absurd (no_site u)
first_site form B push_forbidden e u = absurd (no_site u)
first_site form B (give g) e u = absurd (no_site u)
first_site form B (name_action a b) e u = absurd (no_site u)
first_site form B end_model e u = absurd (no_site u)

-- the numbers of an accepted model lie within their widths
pub site_accepted_in : (form : Form) (B : List ℕ) → (verdict_in form B).number ≡ 0 → SitedIn form (site_in form B)
unfolding verdict_in readings_in readings_from_in judged_in rules_in
site_accepted_in form B z = go (read_in form B 0) refl z
  where
    go : (r : Read) → r ≡ read_in form B 0 → (judged_in form (length B) at_start (from_first_in form B 0 (length B) r)).number ≡ 0 → SitedIn form (site_in form B)
    go (whole c) e z = by_number (first_broken (rules_in form at_start c)) refl z
      where
        by_number : (k : ℕ) → first_broken (rules_in form at_start c) ≡ k
            → (if (eqb k 0) (ended (length B) 0 c (judged_in form (length B) (after at_start c)
            (if (goes_on (whole c)) (readings_from_in form B (length B) (0 + width_in form (byte_at B 0))) []))) (refusal k 0)).number ≡ 0 → SitedIn form
            (site_in form B)
        by_number zero f z = first_site form B c e f
        by_number (suc k) f z = absurd (let y : eqb (suc k) 0 ≡ false = ne_eqb (suc k) 0 (λ q. omega arith) in let x = rw y at z in omega arith)
    go unknown e z = absurd (omega arith)
    go short e z = absurd (omega arith)

pub site_accepted : (B : List ℕ) → (verdict B).number ≡ 0 → Sited (site_at B)
site_accepted = site_accepted_in new_form
