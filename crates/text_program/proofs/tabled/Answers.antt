-- `text_program::tabled` meets its contract.
use native.Mathlib.Omega.{arith}
use Rattle.text_program.proofs.Prints.{tables_are}
use Rattle.text_program.proofs.tabled.Goals as goal

pub returns : goal.returns
returns c = let p = c.print in
    (omega (arith, p.ensures.0, c.requires), tables_are c.args.model.now c.args.horizon c.requires p.ensures.1)
