use borrow.Author.Rules.{rules}
use Rattle.import_list.proofs.Words.{latest}
use Rattle.import_list.proofs.top.Goals as goal

pub returns : goal.returns
returns c = latest _ _ _ c.requires.0 c.unpack.ensures
