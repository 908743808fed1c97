-- A part of the model, as document 01's definitions have it.
use Rattle.theory.specs.Name.{Part}
use Rattle.model_names.specs.declared.Part.{Part as CodePart}

-- the part that the code gives
abbrev pub part_as : CodePart → Part
part_as p = record { start = p.start; size = p.size }
