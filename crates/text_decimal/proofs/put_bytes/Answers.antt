-- `text_decimal::put_bytes` meets its contract: a part that was written over is all of `src` pasted (`put_mid-paste`, `pasted`).
use Prim.Native.Nat.{◌+◌, ◌-◌}
use native.Mathlib.Omega.{arith}
use mathlib.Core.Path.{refl, ◌∙◌}
use lib.ListN.{length}
use Rattle.std.proofs.lemmas.Slice.{put_mid-paste}
use Rattle.text_decimal.proofs.Puts.{pasted}
use Rattle.text_decimal.proofs.put_bytes.Goals as goal

pub returns : goal.returns
returns c = let a = c.args in
    let n = length a.src.now in
    record {
      behind = refl;
      left =
          put_mid-paste a.at (a.at + n - a.at) a.out.now c.copy_from_slice.new.self a.src.now n c.copy_from_slice.ensures.after (omega arith) refl
          ∙ pasted a.out.now a.src.now a.at n refl;
    }
