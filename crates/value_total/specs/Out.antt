-- The outcome.
use Rattle.value_joined.specs.Total.{TotalOut}
use Rattle.value_total.specs.declared.Joined.{Joined}

-- what is said of a total
abbrev pub total_out : Joined → TotalOut
total_out t = record { number = t.number; place = t.place; first = t.first; second = t.second; numerator = t.numerator }
