-- `solve_value_iteration::stage_zero` meets its contract: an end worth stands as the root since loading (`end_grounded`); else the rule `Zero` is
-- tried behind the model's roots, and where it does not stop its count is noted (`zero_grounded`).
use native.Mathlib.Omega.{arith}
use Rattle.solve_value_iteration.proofs.Runs.{end_grounded, zero_ready, zero_fits, zero_grounded}
use Rattle.solve_value_iteration.proofs.stage_zero.Goals as goal

pub returns-then-loaded : goal.returns-then-loaded
returns-then-loaded c = end_grounded c.args.model.now c.requires.0 c.requires.2 c.requires.3 c.requires.4 c.if-loaded.true c.requires.1

pub operate-zero-requires : goal.operate-zero-requires
operate-zero-requires c = zero_ready c.args.model.now c.requires.0 c.requires.2 c.requires.3 c.requires.4 c.model_size-first.ensures.0

pub raise_peak-requires : goal.raise_peak-requires
raise_peak-requires c = (
  omega (arith, c.requires.5),
  zero_fits c.args.model.now c.requires.0 c.requires.2 c.requires.3 c.requires.4 c.if-loaded.false c.requires.1
      c.model_size-first.ensures.0 c.operate-zero.ensures c.operate-zero.auto.roots c.if-zero-eq0.true,
)

pub returns-then-zero-eq0 : goal.returns-then-zero-eq0
returns-then-zero-eq0 c = zero_grounded c.args.model.now c.requires.0 c.requires.2 c.requires.3 c.requires.4 c.if-loaded.false c.requires.1
    c.model_size-first.ensures.0 c.operate-zero.ensures c.operate-zero.auto.roots (λ ok. c.raise_peak.ensures)

pub returns-else-zero-eq0 : goal.returns-else-zero-eq0
returns-else-zero-eq0 c = zero_grounded c.args.model.now c.requires.0 c.requires.2 c.requires.3 c.requires.4 c.if-loaded.false c.requires.1
    c.model_size-first.ensures.0 c.operate-zero.ensures c.operate-zero.auto.roots (λ ok. absurd (c.if-zero-eq0.false ok))
