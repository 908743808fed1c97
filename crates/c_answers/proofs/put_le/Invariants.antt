-- `c_answers::put_le` meets its contract: the first i bytes are written, and `rest` has the others of the k
-- bytes of x (`Begun`), so the length stays; i grows to k.
use Rattle.c_answers.proofs.Bytes.{Begun}
use Rattle.c_answers.proofs.put_le.Given as goal

abbrev pub invariant-loop-i : goal.invariant-loop-i
invariant-loop-i l = Begun l.initial.out l.at l.x l.k l.out l.rest l.i
