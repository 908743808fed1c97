-- `import_emit::items::put_named` meets its contract. The bytes spelled are those of every reading: both are read byte by byte.
use mathlib.Core.List.{List}
use mathlib.Core.Path.{refl, ap}
use Prim.Native.Nat.{ℕ}
use native.Mathlib.Omega.{arith}
use borrow.Author.Rules.{rules}
use Rattle.import_write.proofs.Laws.{name_length}
use Rattle.import_model.specs.Encode.{command_bytes}
use Rattle.theory.specs.Command.{name_action}
use Rattle.import_emit.proofs.Puts.{fits, fits_not, put_as}
use Rattle.import_emit.proofs.Part.{spelt_same}
use Rattle.import_emit.proofs.items.put_named.Goals as goal

pub returns-then-out-at-lt-NAMED : goal.returns-then-out-at-lt-NAMED
returns-then-out-at-lt-NAMED c = record { same = refl; put = λ b s. fits_not refl (omega (arith, name_length c.args.o.action b, s.long, c.if-out-at-lt-NAMED.true)) }

pub put_name-requires : goal.put_name-requires
put_name-requires c = let b = c.spell-name in
    omega (arith, name_length c.args.o.action b.result, b.ensures.long, c.if-out-at-lt-NAMED.false, c.requires.0.room)

pub returns : goal.returns
returns c = let a = c.args.o.action in
    record {
      same = c.put_name.auto.out;
      put = λ b s. put_as (ap (λ (x : List ℕ). command_bytes (name_action a x)) (spelt_same c.spell-name.ensures s)) (fits refl c.put_name.ensures);
    }
