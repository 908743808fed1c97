-- `plain_step::weighing::factor` meets its contract.
use mathlib.Core.Path.{◌≡◌, sym, ap, ap₂, ◌∙◌}
use Prim.Native.Nat.{ℕ, ◌-◌}
use Rattle.theory.specs.Meaning.{nth}
use Rattle.theory.specs.Value.{bits}
use Rattle.plain_step.proofs.Weigh.{factor_one, factor_is}
use Rattle.plain_step.proofs.weighing.factor.Goals as goal

read : {a b n k : ℕ} (r : ℕ) → a ≡ n → b ≡ k → nth (bits n r) k ≡ nth (bits a r) b
read r e f = ap₂ (λ (n k : ℕ). nth (bits n r) k) (sym e) (sym f)

pub returns-then-n-k : goal.returns-then-n-k
returns-then-n-k c = let a = c.args in
    factor_one a.n a.total a.k a.w a.r c.if-n-k.true

pub returns-then-condition : goal.returns-then-condition
returns-then-condition c = let a = c.args in
    factor_is a.n a.total a.k a.w a.r c.if-n-k.false _ (read _ c.from.ensures c.from-else-n-k.ensures ∙ (sym c.condition.ensures ∙ c.if-condition.true))

pub returns-else-condition : goal.returns-else-condition
returns-else-condition c = let a = c.args in
    ap (λ (W : ℕ). W - a.w) c.from-else-condition.ensures
    ∙ factor_is a.n a.total a.k a.w a.r c.if-n-k.false _ (read _ c.from.ensures c.from-else-n-k.ensures ∙ (sym c.condition.ensures ∙ c.if-condition.false))
