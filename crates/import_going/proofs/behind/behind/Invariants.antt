-- `import_going::behind::behind` meets its contract: up to the first k the text from i reads as that from the start, whatever is made of what follows (`Passing`).
use Rattle.import_going.proofs.Steps.{Passing}
use Rattle.import_going.proofs.behind.behind.Given as goal

abbrev pub invariant-loop-i : goal.invariant-loop-i
invariant-loop-i l = Passing l.k l.text l.from l.i
