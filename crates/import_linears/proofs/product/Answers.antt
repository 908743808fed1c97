-- `import_linears::product` meets its contract: the cases of `multiplied`: the constant of the first linear multiplies the second where the first has no level, and else it is the other way round.
use Rattle.import_linears.proofs.Laws.{by_first, by_second}
use Rattle.import_linears.proofs.product.Goals as goal

pub returns-then-without_level : goal.returns-then-without_level
returns-then-without_level c = by_first _ _ c.without_level.ensures c.times-arg-1.given c.if-without_level.true c.times.ensures

pub returns-else-without_level : goal.returns-else-without_level
returns-else-without_level c = by_second _ _ c.without_level.ensures c.times-arg-else-without_level-1.given c.if-without_level.false c.times-else-without_level.ensures
