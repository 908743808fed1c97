use borrow.Author.Rules.{rules}
use Rattle.import_list.proofs.Words.{pushed}
use Rattle.import_list.proofs.push.Goals as goal

pub returns : goal.returns
returns c = pushed _ _ _ _ c.pack.ensures c.requires.1 c.requires.0
