-- `text_page_lines::lines::put_name` meets its contract.
use native.Mathlib.Omega.{arith}
use lib.ListN.{length}
use Rattle.text_page_lines.proofs.LineParts.{rest_length, name_put}
use Rattle.text_page_lines.proofs.lines.put_name.Goals as goal

pub put_bytes-requires : goal.put_bytes-requires
put_bytes-requires c = omega (arith, rest_length (length c.args.name.now) c.requires.0 c.line_end-end.ensures, c.put_bytes-n.ensures.behind, c.put_bytes-n.auto.out, c.requires.0, c.requires.1)

pub returns : goal.returns
returns c = name_put (omega (arith, c.requires.1)) c.requires.0 c.line_end-end.ensures c.put_bytes-n.ensures c.put_bytes.ensures
