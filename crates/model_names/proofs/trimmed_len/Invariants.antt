-- `model_names::trimmed_len` meets its contract: trimming the first k bytes gives what trimming all n gives; a space at the end
-- takes one off (`trim_down`), and any other byte ends it (`trim_stay`).
use mathlib.Core.Path.{◌≡◌}
use lib.ListN.{drop}
use Rattle.theory.specs.Name.{trimmed}
use Rattle.model_names.proofs.trimmed_len.Given as goal

abbrev pub invariant-loop-k : goal.invariant-loop-k
invariant-loop-k l = trimmed (drop l.from l.model) l.k ≡ trimmed (drop l.from l.model) l.n
