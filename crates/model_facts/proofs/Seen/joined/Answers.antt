-- `model_facts::Seen::joined` meets its contract: the low bits are the facts of the two topmost diagrams; the three joined facts, pushed on
-- what lies below the two, are `joined` of the list (`seen_joined`).
use mathlib.Core.Path.{ap₂, ◌∙◌}
use mathlib.Core.Bool.{◌&&◌}
use Rattle.theory.specs.Verdict.{or}
use Rattle.model_facts.specs.Seen.{seen}
use Rattle.model_facts.proofs.Bits.{or_is, or_three, seen_joined}
use Rattle.model_facts.proofs.Seen.joined.Goals as goal

pub returns : goal.returns
returns c = let x = or_three c.args.later c.low.result c.low-2.result ∙ ap₂ (λ h l. or c.args.later (or h l)) c.low.ensures c.low-2.ensures in
    let y = ap₂ ◌&&◌ c.low-3.ensures c.low-4.ensures in
    let z = or_is c.low-5.result c.low-6.result ∙ ap₂ or c.low-5.ensures c.low-6.ensures in
    seen_joined c.args.later c.args.self c.popped-high.result c.popped.result c.popped-high.ensures.1.1 c.popped.ensures.1.1
    _ _ _ (seen c.pushed.result) x y z c.pushed.ensures
