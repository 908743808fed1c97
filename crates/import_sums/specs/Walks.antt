-- What a walk over a text's bytes ends with.
use Rattle.std.specs.Prelude.{◌≡◌, Bool, true, List, [], ◌∷◌, ℕ, suc, ◌≤◌, length, drop}
use Rattle.whole.specs.Cases.{if}
use Rattle.import_frames.specs.declared.Frame.{Frame}
use Rattle.import_frames.specs.Frames.{SoundFrame, idle, stops}
use Rattle.import_sums.specs.Run.{run}
use Rattle.import_sums.specs.declared.Walked.{Walked}

-- a number was beyond, or nothing more belongs to what is walked
unfoldable pub resting : Bool → Frame → List ℕ → Bool
resting only s [] = true
resting only s (k ∷ w) = if s.beyond true (stops only s k)

-- from a frame s at w the run comes to the frame of r at its place, whatever brackets are around
pub record ReachesFrame (w : List ℕ) (at : ℕ) (d : ℕ) (only : Bool) (s : Frame) (i : ℕ) : Type 0 where
  pub sound : SoundFrame s
  pub from : at ≤ i
  pub within : i ≤ length w
  pub runs : (S : List Frame) → run only d S (idle 0) (drop at w) ≡ run only d S s (drop i w)

pub record Walks (w : List ℕ) (at : ℕ) (d : ℕ) (only : Bool) (r : Walked) : Type 0 where
  pub reaches : ReachesFrame w at d only r.frame r.next
  pub rests : resting only r.frame (drop r.next w) ≡ true

-- a bracket in o closes
pub record Closes (w : List ℕ) (o : Frame) (only : Bool) (inner r : Walked) : Type 0 where
  pub sound : SoundFrame r.frame
  pub from : inner.next ≤ r.next
  pub within : r.next ≤ length w
  pub runs : (e : ℕ) (S : List Frame) → run only e (o ∷ S) inner.frame (drop inner.next w) ≡ run only (suc e) S r.frame (drop r.next w)
