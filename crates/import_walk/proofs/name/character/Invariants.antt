-- `import_walk::name::character` meets its contract: character `left` of the string from i is character j of the whole (`Spelling`).
use Rattle.import_walk.proofs.Loops.{Spelling}
use Rattle.import_walk.proofs.name.character.Given as goal

abbrev pub invariant-loop-i : goal.invariant-loop-i
invariant-loop-i l = Spelling l.text l.from l.j l.left l.quoted l.i
