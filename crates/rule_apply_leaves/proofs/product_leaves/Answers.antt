-- `rule_apply_leaves::product_leaves` meets its contract: the leaf "none" stays where the constant is not 0; else the product is worked out, and `make_leaf` judges it.
use Rattle.rule_apply_leaves.proofs.LeafPairs.{plain_product, product_stays, product_made}
use Rattle.rule_apply_leaves.proofs.product_leaves.Goals as goal

pub returns-then-stays_none : goal.returns-then-stays_none
returns-then-stays_none c = product_stays c.requires.0 c.args.f c.args.g c.requires.1 c.requires.2 c.get.ensures c.constant-k.ensures c.stays_none.ensures c.if-stays_none.true

pub make_leaf-requires : goal.make_leaf-requires
make_leaf-requires c = (c.requires.0, plain_product _ _ c.product-s.ensures)

pub returns : goal.returns
returns c = product_made c.requires.0 c.args.f c.args.g c.requires.1 c.requires.2 c.get.ensures c.constant-k.ensures
    c.stays_none.ensures c.if-stays_none.false c.product-s.result c.get-2.ensures c.make_leaf.ensures
    c.product-s.ensures
