-- `model_command::size_in` meets its contract: the case of the command tells its length (`length_of`), and a command
-- that was read is as long as its first byte says (`by_case`).
use mathlib.Core.Logic.{inl, inr}
use mathlib.Core.Path.{refl, ap}
use Prim.Native.Nat.{ℕ, ◌+◌}
use Rattle.model_command.specs.CursorReadings.{command_of_in}
use Rattle.model_command.proofs.Forward.{length_of}
use Rattle.model_command.proofs.Sizes.{by_case}
use Rattle.model_command.proofs.size_in.Goals as goal

pub returns-in-Site : goal.returns-in-Site
unfolding command_of_in length_of
returns-in-Site c = by_case _ _ c.in-Site.is (λ B at. ap (λ (n : ℕ). 4 + n) c.action_bytes.ensures.0)

pub returns-in-Leaf : goal.returns-in-Leaf
unfolding command_of_in length_of
returns-in-Leaf c =
    elim c.in-Leaf.is [ inl e ↦ by_case _ _ e (λ B at. ap (λ (n : ℕ). 1 + n) c.linear_bytes.ensures.0) | inr e ↦ by_case _ _ e (λ B at. ap (λ (n : ℕ). 1 + n) c.linear_bytes.ensures.0) ]

pub returns-in-Condition : goal.returns-in-Condition
unfolding command_of_in length_of
returns-in-Condition c = by_case _ _ c.in-Condition.is (λ B at. refl)

pub returns-in-Forbidden : goal.returns-in-Forbidden
unfolding command_of_in length_of
returns-in-Forbidden c = by_case _ _ c.in-Forbidden.is (λ B at. c.forbidden_bytes.ensures.0)

pub returns-in-Give : goal.returns-in-Give
unfolding command_of_in length_of
returns-in-Give c = by_case _ _ c.in-Give.is (λ B at. c.width_in.ensures.0)

pub returns-in-Name : goal.returns-in-Name
unfolding command_of_in length_of
returns-in-Name c = by_case _ _ c.in-Name.is (λ B at. ap (λ (n : ℕ). n + 16) c.behind_action.ensures.0)

pub returns-in-End : goal.returns-in-End
unfolding command_of_in length_of
returns-in-End c = by_case _ _ c.in-End.is (λ B at. refl)
