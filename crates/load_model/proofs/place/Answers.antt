-- `load_model::place` meets its contract.
use mathlib.Core.Path.{ap, ap₂, ◌∙◌, sym}
use Prim.Native.Nat.{ℕ, ◌+◌, ◌*◌}
use Rattle.model_command.specs.CursorReadings.{command_of_in, command_of}
use Rattle.model_command.specs.declared.Command.{Command as CodeCommand}
use Rattle.load_model.specs.ModelRoots.{place_of}
use Rattle.load_model.proofs.Places.{other_command}
use Rattle.load_model.proofs.place.Goals as goal

pub returns-in-Give : goal.returns-in-Give
unfolding place_of command_of_in
returns-in-Give c = λ B at.
    ap₂ (λ (x y : ℕ). x + y) (c.row.ensures.0 ∙ ap (λ (x : ℕ). x * (1 + c.args.conditions + c.args.levels)) (c.above.ensures.0 _)) (c.offset.ensures.0 _)
    ∙ ap (λ (d : CodeCommand). place_of c.args.levels c.args.conditions c.args.actions (command_of B at d)) (sym c.in-Give.is)

pub returns-in_default : goal.returns-in_default
returns-in_default c = λ B at. (other_command B at c.args.c c.in_default.not-Give).0 c.args.levels c.args.conditions c.args.actions
