-- `model_progress::given::note` meets its contract: what is given, and a name, raise the flag at the place that
-- `noted` sets; any other command gives nothing (`noted_other`).
use mathlib.Core.Path.{sym, ap, ◌∙◌}
use mathlib.Core.Bool.{true}
use Prim.Native.Nat.{ℕ}
use lib.ListN.{set}
use Rattle.model_command.specs.declared.Command.{Command as CodeCommand}
use Rattle.model_progress.specs.GivenFlags.{place, noted}
use Rattle.model_progress.proofs.Flags.{noted_other}
use Rattle.model_progress.proofs.given.note.Goals as goal

pub returns-in-Give : goal.returns-in-Give
unfolding noted
returns-in-Give c = c.raise.ensures
    ∙ ap (λ (k : ℕ). set c.args.flags.now k true) (c.place.ensures ∙ ap (λ (b : ℕ). place b c.in-Give.index c.in-Give.action) c.base.ensures.0)
    ∙ ap (λ (d : CodeCommand). noted d c.args.flags.now) (sym c.in-Give.is)

pub returns-in-Name : goal.returns-in-Name
unfolding noted
returns-in-Name c = c.raise-in-Name.ensures
    ∙ ap (λ (k : ℕ). set c.args.flags.now k true) c.place-in-Name.ensures
    ∙ ap (λ (d : CodeCommand). noted d c.args.flags.now) (sym c.in-Name.is)

pub returns-in_default : goal.returns-in_default
returns-in_default c = noted_other c.args.c c.args.flags.now c.in_default.not-Give c.in_default.not-Name
