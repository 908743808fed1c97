-- A place behind more brackets than a text may have has no commands.
use Rattle.std.specs.Prelude.{Bool, true, false, not, List, [], ◌∷◌, ℕ, ◌<◌, eqb, length}
use Rattle.std.proofs.Common.{arith}
use Rattle.whole.specs.Cases.{if}
use Rattle.theory.specs.Command.{Command}
use Rattle.import_grammar.specs.Grammar.{deepest}
use Rattle.import_found.specs.Places.{Place, lost, is_space, is_cond, after_colon, go, Emits, by_result, by_atom, TooDeep}

deep_if : (b : Bool) (x y : Place) → TooDeep x → TooDeep y → TooDeep (if b x y)
deep_if true x y p q = p
deep_if false x y p q = q

else_deep : (ps : List Bool) (w : List ℕ) → deepest < length ps → TooDeep (elim ps as (λ _. Place) [ [] ↦ after_colon w | p ∷ qs ↦ lost ])
else_deep [] w h = absurd (omega arith)
else_deep (p ∷ qs) w h = tt

-- brackets are only opened on the way to an atom
pub go_deep : (w : List ℕ) (b : Bool) (ps : List Bool) → deepest < length ps → TooDeep (go w b ps)
unfolding go
go_deep [] b ps h = tt
go_deep (k ∷ w) b ps h =
    let turned = go_deep w (not b) ps h in
    let inside = go_deep w false (b ∷ ps) (omega arith) in
    let on = go_deep w b ps h in
    deep_if (eqb k 33) _ _ turned
    (deep_if (eqb k 40) _ _ (deep_if (is_cond w 0) _ _ inside h)
    (deep_if (eqb k 101) _ _ (else_deep ps w h)
    (deep_if (is_space k) _ _ on h)))

pub never_deep : {t : Place} {C : List Command} → Emits t C → TooDeep t → ⊥
never_deep (by_result r q f e a j) d = d
never_deep (by_atom x q k f m z a e j Y N y n) d = absurd (omega (arith, m, d))
