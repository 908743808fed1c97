-- `import_scan::scan` meets its contract: the machine at i, run on over the rest of the text, comes to what it comes to from the start, and it is
-- alive (`At`); a byte at which it is over is where it stops (`stopped`), and the end asks whether it is finished (`ended`).
use Rattle.import_scan.proofs.Walk.{At}
use Rattle.import_scan.proofs.scan.Given as goal

abbrev pub invariant-loop-i : goal.invariant-loop-i
invariant-loop-i l = At l.text l.s l.i
