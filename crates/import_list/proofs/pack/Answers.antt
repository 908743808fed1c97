-- `import_list::pack` meets its contract: each part fits its bits (`Fits`), so every product and sum fits 64 bits; the result is that of `packed`.
use native.Mathlib.Omega.{arith}
use borrow.Author.Rules.{rules}
use Rattle.import_list.specs.Packed.{packed}
use Rattle.import_list.proofs.pack.Goals as goal

pub returns : goal.returns
unfolding packed
returns c = search rules
