-- A verdict, as document 01's definitions have it, and the end of a model.
use Rattle.std.specs.Prelude.{Bool, true, false}
use Rattle.theory.specs.Verdict.{Verdict, refusal}
use Rattle.model_command.specs.declared.Command.{Command as CodeCommand}
use Rattle.model_command.specs.declared.Command.TheVariants.{Site, Leaf, Condition, Test, Forbidden, Give, Name, End}
use Rattle.model.specs.declared.Verdict.{Verdict as CodeVerdict}

abbrev pub shown : CodeVerdict → Verdict
shown v = refusal v.number v.place

unfoldable pub is_end : CodeCommand → Bool
is_end (Site m n a w) = false
is_end Leaf = false
is_end (Condition k) = false
is_end Test = false
is_end Forbidden = false
is_end (Give x a j) = false
is_end (Name a) = false
is_end End = true
