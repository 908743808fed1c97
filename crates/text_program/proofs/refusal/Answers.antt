-- `text_program::refusal` meets its contract.
use lib.ListN.{length}
use Rattle.text_program.proofs.Prints.{refusal_short, put_front}
use Rattle.text_program.proofs.refusal.Goals as goal

pub refusal_line-requires : goal.refusal_line-requires
refusal_line-requires c = refusal_short c.args.number c.args.place (length c.args.text.now) c.requires

pub returns : goal.returns
returns c = put_front c.refusal_line.ensures (refusal_short c.args.number c.args.place (length c.args.text.now) c.requires)
