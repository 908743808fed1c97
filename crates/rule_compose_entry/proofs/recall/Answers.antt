use Rattle.std.proofs.lemmas.Option.{IfSome_then}
use Rattle.rule_compose_entry.proofs.Entries.{key_fits, held_as}
use Rattle.rule_compose_entry.proofs.recall.Goals as goal

pub look-requires : goal.look-requires
look-requires c = (c.requires.0, key_fits c.args.f c.args.levels.now c.requires.1 c.requires.2 c.key-k.ensures)

pub returns : goal.returns
returns c = IfSome_then c.look.result c.look.ensures (λ r e. held_as c.args.cap _ c.args.work.now c.key-k.ensures e)
