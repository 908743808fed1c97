use Rattle.rule_compose_entry.proofs.Entries.{key_fits, stored_as}
use Rattle.rule_compose_entry.proofs.retain.Goals as goal

pub keep-requires : goal.keep-requires
keep-requires c = (c.requires.0, key_fits c.args.f c.args.levels.now c.requires.1 c.requires.2 c.key-k.ensures, c.requires.3)

pub returns : goal.returns
returns c = stored_as c.args.cap c.args.r c.args.work.now c.key-k.ensures c.keep.ensures
