-- `import_emit_cases::put_linear` meets its contract: both commands have 37 bytes.
use native.Mathlib.Omega.{arith}
use Rattle.import_write.proofs.Laws.{leaf_length, test_length}
use Rattle.import_emit_cases.proofs.Putting.{put_one, no_room, linear_length, linear_test, linear_leaf, as_told}
use Rattle.import_emit_cases.proofs.put_linear.Goals as goal

pub returns-then-out-at-lt-LINEAR_BYTES : goal.returns-then-out-at-lt-LINEAR_BYTES
returns-then-out-at-lt-LINEAR_BYTES c = no_room _ _ 37 _ (linear_length c.args.a c.well_formed.1.1.0.1.0.1 c.args.test) c.requires.1 (omega (arith, c.if-out-at-lt-LINEAR_BYTES.true, c.requires.1)) _

pub put_test-requires : goal.put_test-requires
put_test-requires c = (c.requires.0, omega (arith, (test_length c.args.a c.well_formed.1.1.0.1.0.1), c.if-out-at-lt-LINEAR_BYTES.false, c.requires.1))

pub returns-then-test : goal.returns-then-test
returns-then-test c = as_told (linear_test c.args.a c.args.test c.if-test.true)
    (put_one _ _ 37 _ (test_length c.args.a c.well_formed.1.1.0.1.0.1) _ _ (omega arith) (omega (arith, c.if-out-at-lt-LINEAR_BYTES.false, c.requires.1))
    c.put_test.ensures)

pub put_leaf-requires : goal.put_leaf-requires
put_leaf-requires c = (c.requires.0, omega (arith, (leaf_length c.args.a c.well_formed.1.1.0.1.0.1), c.if-out-at-lt-LINEAR_BYTES.false, c.requires.1))

pub returns : goal.returns
returns c = as_told (linear_leaf c.args.a c.args.test c.if-test.false)
    (put_one _ _ 37 _ (leaf_length c.args.a c.well_formed.1.1.0.1.0.1) _ _ (omega arith) (omega (arith, c.if-out-at-lt-LINEAR_BYTES.false, c.requires.1))
    c.put_leaf.ensures)
