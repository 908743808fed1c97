use borrow.Author.Rules.{rules}
use Rattle.import_list.specs.Packed.{unpacked}
use Rattle.import_list.proofs.unpack.Goals as goal

pub returns : goal.returns
unfolding unpacked
returns c = search rules
