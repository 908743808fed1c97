-- `price_sure::answered` meets its contract.
use Rattle.std.proofs.Common.{◌≡◌, ℕ, Bool, true, false}
use Rattle.std.specs.Int.{from_bool}
use Rattle.price_change.specs.Sure.{SureOut, said}
use Rattle.price_sure.proofs.answered.Goals as goal

told : (b : Bool) {n : ℕ} → n ≡ from_bool b → ◌≡◌ {A = SureOut} (record { number = 0; place = 0; sure = n }) (said b)
told true e = λ i. record { number = 0; place = 0; sure = e i }
told false e = λ i. record { number = 0; place = 0; sure = e i }

pub returns : goal.returns
returns c = told c.args.yes c.from.ensures
