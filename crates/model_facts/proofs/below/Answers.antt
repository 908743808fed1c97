-- `model_facts::below` meets its contract.
use mathlib.Core.Path.{◌≡◌, refl, ap, ◌∙◌}
use mathlib.Core.Bool.{Bool, true, false}
use Prim.Native.Nat.{ℕ, ◌+◌, ◌*◌, ◌%◌}
use mir.Val.{bool_byte}
use Rattle.whole.specs.Cases.{if}
use Rattle.model_facts.proofs.below.Goals as goal

bit : (b : Bool) → bool_byte b ≡ if b 1 0
bit true = refl
bit false = refl

pub returns : goal.returns
returns c = ap (λ (n : ℕ). c.args.word % 2147483648 * 2 + n) (c.from.ensures ∙ bit c.args.b)
