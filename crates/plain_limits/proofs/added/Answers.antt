-- `plain_limits::added` meets its contract: what is no number stays, the sum before the worth; a product over the limits is over (`added_much`), and
-- else both addends are small, so their sum is limited as `Added-of` says (`added_is`).
use Rattle.plain_limits.proofs.Judge.{no_number, sum_stays, added_stays, added_much, addends_small, added_is}
use borrow.Author.Rules.{rules}
use Rattle.plain_limits.proofs.added.Goals as goal

pub returns-in_default : goal.returns-in_default
returns-in_default c = sum_stays _ _ _ (no_number c.args.sum c.in_default.not-Is)

pub returns-in_default-t : goal.returns-in_default-t
returns-in_default-t c = added_stays c.args.sum _ c.args.t _ _ c.in-Is.is (no_number c.args.t c.in_default-t.not-Is)

pub returns-in_default-product : goal.returns-in_default-product
returns-in_default-product c = added_much c.args.sum _ c.args.t _ _ c.in-Is.is _ _ c.in-Is-t.is (search rules)
    c.requires.1 _ c.product.ensures c.in_default-product.is

pub add_within-requires : goal.add_within-requires
add_within-requires c = addends_small c.args.sum _ c.args.t _ _ c.in-Is.is _ _ c.in-Is-t.is (search rules)
    c.requires.1 _ c.product.ensures _ c.in-Some.is c.requires.0 (search rules)
    (search rules)

pub returns : goal.returns
returns c = added_is c.args.sum _ c.args.t _ _ c.in-Is.is _ _ c.in-Is-t.is (search rules)
    c.requires.1 _ c.product.ensures _ c.in-Some.is c.requires.0 (search rules)
    (search rules) c.add_within.ensures c.worth_of.ensures
