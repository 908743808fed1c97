-- `import_walk::scan::scan` meets its contract: scanning on from i with `inside` as it is comes to the rest that scanning from `from` comes to
-- (`Scanning`); a byte that stops is the answer (`scan_here`), and i grows to the end.
use Rattle.import_walk.proofs.Loops.{Scanning}
use Rattle.import_walk.proofs.scan.scan.Given as goal

abbrev pub invariant-loop-i : goal.invariant-loop-i
invariant-loop-i l = Scanning l.string l.text l.from l.inside l.i
