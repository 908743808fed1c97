use Prim.Native.Nat.{◌-◌}
use native.Mathlib.Omega.{arith}
use lib.ListN.{get_or}
use Rattle.prune_tables.proofs.Loops.{gather_begins, gather_root, gather_none, gather_ends, few_gathered}
use Rattle.prune_tables.proofs.gather_roots.Goals as goal
use Rattle.prune_tables.proofs.gather_roots.Goals.{then-stages-h-ne0, else-stages-h-ne0}

pub loop-h-init : goal.loop-h-init
loop-h-init c = gather_begins

pub gone-requires : goal.gone-requires
gone-requires c = let w = c.requires.0.words c.loop-h.h c.loop-h-test.true in
    (omega (arith, c.if-stages-h-ne0.true), w, c.requires.0.few, c.requires.0.works)

pub overflow_cast-roots : goal.overflow_cast-roots
overflow_cast-roots c = let r = get_or c.args.stages.now c.loop-h.h 0 in
    let w = c.requires.0.words c.loop-h.h c.loop-h-test.true in
    record { fits = omega (arith, c.requires.0.gone (r - 1) (omega (arith, c.if-stages-h-ne0.true)), c.requires.0.few, c.gone.ensures) }

pub offset_bounds-roots-k : goal.offset_bounds-roots-k
offset_bounds-roots-k c = let G = c.loop-h.invariant in
    record { fits = omega (arith, few_gathered G, c.loop-h-test.true) }

pub bounds-roots-k : goal.bounds-roots-k
bounds-roots-k c = let G = c.loop-h.invariant in
    omega (arith, few_gathered G, G.len, c.requires.1, c.loop-h-test.true)

pub overflow_add-k : goal.overflow_add-k
overflow_add-k c = let G = c.loop-h.invariant in
    record { fits = omega (arith, few_gathered G, c.loop-h-test.true) }

pub loop-h-preserved : goal.loop-h-preserved
loop-h-preserved c = let G = c.loop-h.invariant in
    let h = c.loop-h-test.true in
    elim c.if-stages-h-ne0.branch [
      | then-stages-h-ne0 w ↦ gather_root G c.requires.1 h w.if-stages-h-ne0.true w.gone.ensures w.roots-is w.k-is
      | else-stages-h-ne0 w ↦ gather_none G h w.if-stages-h-ne0.false w.roots-is w.k-is
    ]

pub shape_of-roots : goal.shape_of-roots
shape_of-roots c = c.loop-h.invariant.len

pub returns : goal.returns
returns c = gather_ends c.loop-h.invariant c.loop-h-test.false
