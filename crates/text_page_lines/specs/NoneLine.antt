-- The line of a stage whose value is "none": ""None" reads as .. action 0 and an empty name", "`none` right-aligned on the page".
use Rattle.std.specs.Prelude.{◌≡◌, refl, Bool, true, false, List, [], ◌∷◌, ◌++◌, ℕ, eqb, ℤ, pos, take, drop, replicate}
use Rattle.std.proofs.Common.{ap, ◌∙◌}
use Rattle.whole.specs.Cases.{if}
use Rattle.theory.specs.Widths.{steps_most}
use Rattle.theory.specs.Command.{readings}
use Rattle.theory.specs.Valid.{among}
use Rattle.theory.specs.Verdict.{refusal}
use Rattle.theory.specs.Solve.{early}
use Rattle.theory.specs.Value.{Asked, value_of}
use Rattle.theory.specs.Name.{Part, no_part, named_part, name_refusal, name_part, name}
use Rattle.text_page_lines.specs.Page.{in_decimal, right, left, value_text, page_line, whole_part, line_at}

-- `none` after 26 spaces, and sixteen spaces for a name
abbrev pub NoneLine : Type 0
NoneLine = (B : List ℕ) (nodes : List ℤ) (stages : List ℕ) (q : Asked) (h : ℕ) → (value_of B nodes stages h q).action ≡ 0
    → line_at B nodes stages q h ≡ (right 2 (in_decimal (pos h)) ++ (32 ∷ [])) ++ ((replicate 26 32 ++ (110 ∷ 111 ∷ 110 ∷ 101 ∷ 32 ∷ [])) ++ (replicate 16 32 ++ (10 ∷ [])))

-- the part of the model that is action 0's name, by whether the call is refused early
abbrev part : List ℕ → Bool → Part
part B passed = if (eqb (if passed (refusal 16 0) (early B 1 steps_most)).number 0) (named_part B 0 (readings B)) no_part

-- action 0 is not 1 to A, so the call is refused and the name empty
unnamed : (B : List ℕ) → name B 0 ≡ []
unfolding name name_part name_refusal among
unnamed B = go (eqb (early B 1 steps_most).number 0) refl
  where
    go : (b : Bool) → eqb (early B 1 steps_most).number 0 ≡ b → take (part B b).size (drop (part B b).start B) ≡ []
    go true e = refl
    go false e = rw e

pub none_line : NoneLine
unfolding line_at page_line value_text right left
none_line B nodes stages q h e =
    let z = whole_part B q h (value_of B nodes stages h q).numerator in
    ap (λ (a : ℕ). page_line h a z (name B a)) e ∙ ap (page_line h 0 z) (unnamed B)
