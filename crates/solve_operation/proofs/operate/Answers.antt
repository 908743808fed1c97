-- `solve_operation::operate` meets its contract: the roots moved with their nodes, so the rule has the same operands; only a rule that ended writes its root.
use mathlib.Core.Path.{refl, sym}
use native.Mathlib.Omega.{arith}
use Rattle.solve_operation.proofs.Roots.{kept_length}
use Rattle.solve_operation.proofs.Done.{keep_asks, held_within, held_length, rule_asks, answer_fits, operation_done, operation_stopped}
use Rattle.rule_node.proofs.Outcomes.{stops}
use Rattle.solve_operation.proofs.operate.Goals as goal

pub keep_roots-left-requires : goal.keep_roots-left-requires
keep_roots-left-requires c = keep_asks c.requires.0

pub slice_bounds-run_rule-end : goal.slice_bounds-run_rule-end
slice_bounds-run_rule-end c = held_within c.requires.0 c.keep_roots-left.ensures

pub slice_bounds-run_rule-end-2 : goal.slice_bounds-run_rule-end-2
slice_bounds-run_rule-end-2 c = sym (held_length c.requires.0 c.keep_roots-left.ensures)

pub run_rule-requires : goal.run_rule-requires
run_rule-requires c = rule_asks c.requires.0 c.keep_roots-left.ensures c.args.rule c.requires.3

pub overflow_cast-roots : goal.overflow_cast-roots
overflow_cast-roots c = let h = answer_fits c.requires.0 c.keep_roots-left.ensures c.args.rule c.in-Ok.ensures refl in
    omega arith

pub offset_bounds-roots-to : goal.offset_bounds-roots-to
offset_bounds-roots-to c = let h = c.requires.2 in
    omega arith

pub bounds-roots-to : goal.bounds-roots-to
bounds-roots-to c = let h = c.requires.2 in
    let e = kept_length c.keep_roots-left.ensures in
    omega arith

pub returns-in-Ok : goal.returns-in-Ok
returns-in-Ok c = operation_done c.requires.0 c.keep_roots-left.ensures c.args.rule c.in-Ok.ensures c.requires.1 c.requires.2 c.max.ensures (λ ok. refl)

pub returns-in-Err : goal.returns-in-Err
returns-in-Err c = operation_stopped c.requires.0 c.keep_roots-left.ensures c.args.rule c.in-Err.ensures c.requires.1 c.requires.2 c.number.ensures c.max-in-Err.ensures (stops c.in-Err.e)
