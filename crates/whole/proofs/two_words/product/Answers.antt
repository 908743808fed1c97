-- `whole::two_words::product` meets its contract.
use Rattle.whole.proofs.TwoWords.{magnitudes, product_is}
use Rattle.whole.proofs.two_words.product.Goals as goal

pub times-x-requires : goal.times-x-requires
times-x-requires c = magnitudes c.args.a c.args.b c.requires c.ranges.b c.from-w.ensures c.mag.result c.mag-2.result c.mag.ensures c.mag-2.ensures

pub returns : goal.returns
returns c = product_is c.args.a c.args.b c.requires c.ranges.b c.from-w.ensures _ _ c.mag.ensures c.mag-2.ensures _ _ _
    c.times-x.ensures c.with_sign.ensures c.with_sign-2.ensures
