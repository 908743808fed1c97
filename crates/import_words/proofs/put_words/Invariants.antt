-- `import_words::put_words` meets its contract.
use Rattle.import_words.proofs.Laws.{Written}
use Rattle.import_words.proofs.put_words.Given as goal

abbrev pub invariant-loop-i : goal.invariant-loop-i
invariant-loop-i l = Written l.a l.initial.out l.at l.i l.next l.out
