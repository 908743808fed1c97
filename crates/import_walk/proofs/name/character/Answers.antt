use mathlib.Core.Path.{refl, sym, ◌∙◌}
use Prim.Native.Nat.{◌-◌}
use Rattle.import_walk.proofs.Loops.{Spelling, spell_here, spell_on, spell_behind, spell_quoted, spell_end}
use Rattle.import_walk.proofs.name.character.Goals as goal
use Rattle.import_walk.proofs.name.character.Goals.{then-spells+else-left-eq0, else-spells+else-quoted}
use mathlib.Core.Path.{subst}
use mathlib.Core.Bool.{Bool}
use Prim.Native.Nat.{ℕ, ◌+◌, ◌-◌}
use Rattle.import_walk.proofs.Loops.{Spelling}

pub loop-i-init : goal.loop-i-init
loop-i-init c = record { within = c.requires; rest = refl }

pub returns-then-left-eq0 : goal.returns-then-left-eq0
returns-then-left-eq0 c = spell_here _ _ _ _ _ _ c.loop-i.invariant c.loop-i-test.true (sym c.spells.ensures ∙ c.if-spells.true) c.if-left-eq0.true

pub returns-then-quoted : goal.returns-then-quoted
returns-then-quoted c = spell_behind _ _ _ _ _ _ c.loop-i.invariant c.loop-i-test.true (sym c.spells.ensures ∙ c.if-spells.false) c.if-quoted.true

pub loop-i-preserved : goal.loop-i-preserved
loop-i-preserved c =
    let a = c.args in
    let on = λ (x : ℕ) (q : Bool). Spelling a.text.now a.from a.j x q (c.loop-i.i + 1) in
    elim c.if-spells.branch [
      | then-spells+else-left-eq0 w ↦ subst (λ (x : ℕ). on x c.if-spells.quoted) (sym w.left-is) (subst (on (c.loop-i.left - 1)) (sym w.quoted-is)
          (spell_on _ _ _ _ _ _ c.loop-i.invariant c.loop-i-test.true (sym c.spells.ensures ∙ w.if-spells.true) w.if-left-eq0.false))
      | else-spells+else-quoted w ↦ subst (λ (x : ℕ). on x c.if-spells.quoted) (sym w.left-is) (subst (on c.loop-i.left) (sym w.quoted-is)
          (spell_quoted _ _ _ _ _ _ c.loop-i.invariant c.loop-i-test.true (sym c.spells.ensures ∙ w.if-spells.false) w.if-quoted.false))
    ]

pub returns : goal.returns
returns c = spell_end _ _ _ _ _ _ c.loop-i.invariant c.loop-i-test.false
