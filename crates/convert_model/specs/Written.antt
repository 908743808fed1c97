-- What the code answers with, and how it tells a command 13.
use Rattle.std.specs.Prelude.{Bool, true, false, List, ℕ}
use Rattle.theory.specs.Listing.{ListingOut}
use Rattle.model_command.specs.CursorReadings.{CodeRead}
use Rattle.std.specs.Prelude.{Ok, Err}
use Rattle.model_command.specs.declared.Command.TheVariants.{Site, Leaf, Condition, Test, Forbidden, Give, Name, End}
use Rattle.convert_model.specs.declared.Converted.{Converted}

-- a command 13
unfoldable pub reads_forbidden : CodeRead → Bool
reads_forbidden (Ok (Site m n a w)) = false
reads_forbidden (Ok Leaf) = false
reads_forbidden (Ok (Condition k)) = false
reads_forbidden (Ok Test) = false
reads_forbidden (Ok Forbidden) = true
reads_forbidden (Ok (Give c a i)) = false
reads_forbidden (Ok (Name a)) = false
reads_forbidden (Ok End) = false
reads_forbidden (Err e) = false

-- the outcome that the code gives, with the buffer as it is left
abbrev pub outcome_as : Converted → List ℕ → ListingOut
outcome_as r buffer = record { number = r.number; place = r.place; size = r.size; buffer = buffer }
