-- `plain_leaf::pass_from` meets its contract: the pass from `at` on with the stack so far comes to what the whole pass comes to (`Seek`); a leaf,
-- another push and any other command each go on as their turn says, and `at` grows within the model.
use Prim.Native.Nat.{◌-◌}
use lib.ListN.{length}
use Rattle.model_stack.specs.Held.{last_first}
use Rattle.plain_pass.specs.Pass.{slot_of}
use Rattle.plain_pass.specs.Parts.{StackRoom, Seek}
use Rattle.plain_leaf.proofs.pass_from.Given as goal

abbrev pub invariant-loop-items : goal.invariant-loop-items
invariant-loop-items l = StackRoom l.items l.len × Seek l.model l.x (slot_of l.g) l.at (last_first l.items l.len)

abbrev pub decreases-loop-items : goal.decreases-loop-items
decreases-loop-items l = length l.model - l.at
