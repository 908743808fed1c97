-- `import_write::put_site` meets its contract.
use native.Mathlib.Omega.{arith}
use Rattle.text_decimal.proofs.Puts.{then, rename}
use Rattle.import_write.proofs.Laws.{site_length, site_is}
use borrow.Author.Rules.{rules}
use Rattle.import_write.proofs.put_site.Goals as goal

pub put_two-n-requires : goal.put_two-n-requires
put_two-n-requires c = omega (arith, c.requires, site_length c.args.levels c.args.conditions c.args.actions c.args.weights)

pub put_byte-k-requires : goal.put_byte-k-requires
put_byte-k-requires c = omega (arith, c.requires, site_length c.args.levels c.args.conditions c.args.actions c.args.weights, c.put_two-n.ensures.behind, c.put_two-n.auto.out)

pub put_behind-requires : goal.put_behind-requires
put_behind-requires c = omega (
  arith,
  c.requires,
  site_length c.args.levels c.args.conditions c.args.actions
      c.args.weights,
  c.put_two-n.ensures.behind,
  c.put_two-n.auto.out,
  c.put_byte-k.ensures.behind,
  c.put_byte-k.auto.out,
)

pub returns : goal.returns
returns c = rename (site_is c.args.levels c.args.conditions c.args.actions c.args.weights)
    (then (omega (arith, c.requires)) (then (omega (arith, c.requires)) c.put_two-n.ensures c.put_byte-k.ensures)
    c.put_behind.ensures)
