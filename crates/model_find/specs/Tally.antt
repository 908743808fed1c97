-- One pass over a model's commands: who carries a name, of the commands so far.
use Rattle.std.specs.Prelude.{List, [], ◌∷◌, ℕ}
use Rattle.whole.specs.Cases.{if}
use Rattle.theory.specs.Command.{site, push_leaf, push_condition, push_test, push_forbidden, give, name_action, end_model, Read, whole, unknown, short, Placed}
use Rattle.model_find.specs.declared.Bearers.{Bearers}
use Rattle.model_find.specs.declared.Bearers.TheVariants.{Nobody, One, Several}
use Rattle.model_find.specs.declared.Found.{Found}
use Rattle.model_find.specs.Find.{FindOut, refused_find, found, trim, same_name}

-- the outcome that the code gives
abbrev pub found_as : Found → FindOut
found_as f = record { number = f.number; place = f.place; action = f.action }

-- one more
unfoldable pub joined : Bearers → ℕ → Bearers
joined Nobody a = One a
joined (One b) a = Several
joined Several a = Several

-- with what stands at an offset: a command that names an action x, but for spaces at the end
unfoldable pub with_reading : List ℕ → Bearers → Read → Bearers
with_reading x s (whole (site m n a w)) = s
with_reading x s (whole (push_leaf p)) = s
with_reading x s (whole (push_condition k)) = s
with_reading x s (whole (push_test p)) = s
with_reading x s (whole push_forbidden) = s
with_reading x s (whole (give g)) = s
with_reading x s (whole (name_action a t)) = if (same_name (trim t) x) (joined s a) s
with_reading x s (whole end_model) = s
with_reading x s unknown = s
with_reading x s short = s

-- with all of some
unfoldable pub tally : List ℕ → Bearers → List Placed → Bearers
tally x s [] = s
tally x s (p ∷ l) = tally x (with_reading x s p.read) l

-- what is told of them
unfoldable pub told : Bearers → FindOut
told Nobody = refused_find 18 0
told (One a) = found a
told Several = refused_find 19 0
