-- `whole_wide::product` meets its contract: a half times w, with what the half before carries, stays below a word (`one` to `four`);
-- the four halves with their carries are the product (`product_is`).
use Rattle.std.proofs.Common.{ℕ, ◌+◌, ◌*◌, ap₂, ◌∙◌, arith}
use Rattle.whole_division.specs.Words.{two_words}
use Rattle.whole_wide.proofs.Halves.{one, two, three, four, product_is}
use Rattle.whole_wide.proofs.product.Goals as goal

pub overflow_mul-p : goal.overflow_mul-p
overflow_mul-p c = omega (arith, one c.args.high c.args.low c.from-by.result c.args.d (omega arith) (omega arith) (omega arith) (omega arith))

pub overflow_add-p : goal.overflow_add-p
overflow_add-p c = omega (arith, one c.args.high c.args.low c.from-by.result c.from.result (omega arith) (omega arith) (omega arith) (omega arith))

pub overflow_mul-q : goal.overflow_mul-q
overflow_mul-q c = omega (arith, two c.args.high c.args.low c.from-by.result c.from.result (omega arith) (omega arith) (omega arith) (omega arith))

pub overflow_add-q : goal.overflow_add-q
overflow_add-q c = omega (arith, two c.args.high c.args.low c.from-by.result c.from.result (omega arith) (omega arith) (omega arith) (omega arith))

pub overflow_mul-r : goal.overflow_mul-r
overflow_mul-r c = omega (arith, three c.args.high c.args.low c.from-by.result c.from.result (omega arith) (omega arith) (omega arith) (omega arith))

pub overflow_add-r : goal.overflow_add-r
overflow_add-r c = omega (arith, three c.args.high c.args.low c.from-by.result c.from.result (omega arith) (omega arith) (omega arith) (omega arith))

pub overflow_mul-s : goal.overflow_mul-s
overflow_mul-s c = omega (arith, four c.args.high c.args.low c.from-by.result c.from.result (omega arith) (omega arith) (omega arith) (omega arith))

pub overflow_add-s : goal.overflow_add-s
overflow_add-s c = omega (arith, four c.args.high c.args.low c.from-by.result c.from.result (omega arith) (omega arith) (omega arith) (omega arith))

pub returns : goal.returns
returns c = let a = c.args in
    product_is a.high a.low c.from-by.result c.from.result ∙ ap₂ (λ (w d : ℕ). two_words a.high a.low * w + d) c.from-by.ensures c.from.ensures
