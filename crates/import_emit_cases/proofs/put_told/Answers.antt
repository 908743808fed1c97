-- `import_emit_cases::put_told` meets its contract: the tests of the code are those of `command_told`.
use Rattle.import_emit_cases.proofs.Putting.{told_leaf, told_condition, told_test, told_forbidden, as_told}
use Rattle.import_emit_cases.proofs.put_told.Goals as goal

pub returns-then-t-eq16 : goal.returns-then-t-eq16
returns-then-t-eq16 c = as_told {r = c.put_linear.result} {out' = c.put_linear.new.out} (told_leaf c.args.t c.if-t-eq16.true) c.put_linear.ensures

pub returns-then-t-eq17 : goal.returns-then-t-eq17
returns-then-t-eq17 c = as_told (told_condition c.args.t c.if-t-eq16.false c.if-t-eq17.true) c.put_asking.ensures

pub returns-then-t-eq18 : goal.returns-then-t-eq18
returns-then-t-eq18 c = as_told (told_test c.args.t c.if-t-eq16.false c.if-t-eq17.false c.if-t-eq18.true) c.put_linear-then-t-eq18.ensures

pub returns : goal.returns
returns c = as_told (told_forbidden c.args.t c.if-t-eq16.false c.if-t-eq17.false c.if-t-eq18.false) c.put_barring.ensures
