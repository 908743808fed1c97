-- The run over bytes, with the frames of the brackets around.
use Rattle.std.specs.Prelude.{Bool, List, [], ◌∷◌, ℕ, zero, suc, eqb}
use Rattle.whole.specs.Cases.{if}
use Rattle.import_frames.specs.declared.Frame.{Frame}
use Rattle.import_frames.specs.Frames.{idle, closed, step, popped, stops, opens}

-- a number was beyond, or brackets do not match; or the frame and the bytes at which it ends
pub data SumOut : Type 0 where
  stopped : SumOut
  ended : Frame → List ℕ → SumOut

-- a frame that ends, its number whole
abbrev pub final : Frame → List ℕ → SumOut
final s w = if (closed s).beyond stopped (ended (closed s) w)

-- d more brackets may be opened
unfoldable pub run : Bool → ℕ → List Frame → Frame → List ℕ → SumOut
unfolding closed step popped
run only d S s [] = if s.beyond stopped (elim S [ [] ↦ final s [] | o ∷ R ↦ stopped ])
run only d S s (k ∷ w) =
    if s.beyond stopped
    (if (stops only s k) (elim S [ [] ↦ final s (k ∷ w) | o ∷ R ↦ if (eqb k 41) (run only (suc d) R (popped o s) w) stopped ])
    (if (opens s k) (elim d [ zero ↦ stopped | suc e ↦ run only e (s ∷ S) (idle 0) w ]) (run only d S (step s k) w)))
