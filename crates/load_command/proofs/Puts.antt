-- What was made or stopped, on the stack.
use mathlib.Core.Path.{◌≡◌, refl, sym, subst}
use mathlib.Core.List.{List}
use Prim.Native.Nat.{ℕ, ◌<◌}
use Rattle.std.specs.Prelude.{Ok, Err}
use Rattle.table.specs.Table.{Answer, stop_of, at_of, stop_number}
use Rattle.table.specs.declared.Made.{Made}
use Rattle.table.specs.declared.Stopped.{Stopped}
use Rattle.rule_node.proofs.Outcomes.{stops}
use Rattle.model_stack.specs.Held.{held, pushed}
use Rattle.load_command.specs.CommandStep.{PutMade}
use Rattle.load_command.specs.declared.Loaded.{Loaded}

pub made_small : {m : Answer} {x : Made} → m ≡ Ok x → (stop_of m ≡ 0 → at_of m < 65536) → x.at < 65536
made_small e h = subst (λ (z : Answer). stop_of z ≡ 0 → at_of z < 65536) e h refl

pub put_made : {m : Answer} {x : Made} {K : List ℕ} {r : Loaded} → m ≡ Ok x → r.stop ≡ 0 → r.count ≡ x.count → held r.stack ≡ pushed x.at K → PutMade K m r
put_made {K = K} {r = r} e a b d = subst (λ (z : Answer). PutMade K z r) (sym e) (record { stop = a; count = b; stack = λ _. d })

pub put_stopped : {m : Answer} {s : Stopped} {K : List ℕ} {r : Loaded} → m ≡ Err s → r.stop ≡ stop_number s.why → r.count ≡ s.count → PutMade K m r
put_stopped {s = s} {K = K} {r = r} e a b = subst (λ (z : Answer). PutMade K z r) (sym e) (record { stop = a; count = b; stack = λ z. absurd (stops s z) })
