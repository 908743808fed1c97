-- `finish_arrange::swap_work` meets its contract: the two cases of `swap_places`: the node at k has no number, or its number's word is set to p.
use mathlib.Core.Path.{refl}
use native.Mathlib.Omega.{arith}
use lib.ListN.{length-set}
use Rattle.finish_arrange.proofs.Perm.{work_none, work_some}
use Rattle.finish_arrange.proofs.swap_work.Goals as goal

pub returns-then-q-eq0 : goal.returns-then-q-eq0
returns-then-q-eq0 c = work_none c.args.work.now c.args.cap c.args.k c.args.p _ refl c.if-q-eq0.true

pub bounds-work-q : goal.bounds-work-q
bounds-work-q c = simp length-set (let a = c.requires.0 in let b = c.requires.4 in let d = c.requires.2 in omega (arith, c.if-q-eq0.false))

pub returns : goal.returns
returns c = work_some c.args.work.now c.args.cap c.args.k c.args.p _ refl c.if-q-eq0.false
