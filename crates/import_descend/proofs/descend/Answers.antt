use native.Mathlib.Omega.{arith}
use Rattle.import_descend.proofs.Entering.{start_walk, ready, walk_on, no_room, reached, lost_here, deep_here, past_end, as_none}
use mathlib.Core.Logic.{⊎_elim}
use Rattle.import_descend.proofs.descend.Goals as goal
use Rattle.import_descend.proofs.descend.Goals.{else-loop-n-test, then-loop-n-test+in-Atom+else-n-list+else-n-n-end}
use mathlib.Core.Path.{◌∙◌, sym, subst}
use Rattle.import_descend.specs.Walks.{Descends}
use native.Mathlib.Omega.{arith}

pub loop-n-init : goal.loop-n-init
loop-n-init c = start_walk _ _ _ _ c.requires

pub shape_of-list-then-n-list : goal.shape_of-list-then-n-list
shape_of-list-then-n-list c = c.loop-n.invariant.same

pub returns-then-n-list : goal.returns-then-n-list
returns-then-n-list c = as_none c.nothing.ensures (no_room _ _ _ _ _ _ _ c.requires c.loop-n.invariant _ _ _ _ c.in-Atom.is c.if-n-list.true)

pub enter-s-requires : goal.enter-s-requires
enter-s-requires c = ready _ _ _ _ _ _ _ c.requires c.loop-n.invariant _ _ _ _ c.in-Atom.is c.if-n-list.false

pub loop-n-preserved : goal.loop-n-preserved
loop-n-preserved c = walk_on _ _ _ _ _ _ _ c.requires c.loop-n.invariant _ _ _ _ c.in-Atom.is c.if-n-list.false c.enter-s.result _ c.enter-s.ensures

pub shape_of-list-in-Result : goal.shape_of-list-in-Result
shape_of-list-in-Result c = c.loop-n.invariant.same

pub returns-in-Result : goal.returns-in-Result
returns-in-Result c = reached _ _ _ _ _ _ _ c.requires c.loop-n.invariant _ c.in-Result.is

pub shape_of-list-in-Lost : goal.shape_of-list-in-Lost
shape_of-list-in-Lost c = c.loop-n.invariant.same

pub returns-in-Lost : goal.returns-in-Lost
returns-in-Lost c = as_none c.nothing-in-Lost.ensures (⊎_elim (λ e. lost_here _ _ _ _ _ _ _ c.requires c.loop-n.invariant e) (λ e. deep_here _ _ _ _ _ _ _ c.requires c.loop-n.invariant e) c.in-Lost.is)

pub shape_of-list : goal.shape_of-list
shape_of-list c = c.loop-n-test.auto.list ∙ c.loop-n.invariant.same

pub returns : goal.returns
returns c = elim c.loop-n-test.branch [
  | else-loop-n-test w ↦ subst (Descends _ _ _ _ _) (sym w.list-is) (as_none c.nothing-2.ensures (past_end _ _ _ _ _ _ _ c.requires c.loop-n.invariant (omega (arith, w.loop-n-test.false, c.loop-n.invariant.same))))
  | then-loop-n-test+in-Atom+else-n-list+else-n-n-end w ↦ let h = w.if-n-list.false in let k = w.loop-n-test.true in absurd (omega (arith, h, k, c.loop-n.auto.n-end))
]
