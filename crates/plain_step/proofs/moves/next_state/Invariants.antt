-- `plain_step::moves::next_state` meets its contract: the first i levels are the next state's, and the denominator and what lies beyond the levels
-- are as they were (`Moved`); a level that leaves 32 bits makes the whole over (`leads_over`), and i grows to the levels.
use Rattle.plain_step.proofs.NextStates.{Moved}
use Rattle.plain_step.proofs.moves.next_state.Given as goal

abbrev pub invariant-loop-i : goal.invariant-loop-i
invariant-loop-i l = Moved l.model l.a l.fn.x l.r l.i l.n
