-- What holds in a walk over the commands of a model.
use Rattle.std.specs.Prelude.{◌≡◌, Option, IfSome, Bool, true, List, ℕ, ◌+◌, ◌-◌, ◌≤◌, ◌<◌, length}
use Rattle.theory.specs.Form.{Form, linear_bytes}
use Rattle.theory.specs.Command.{readings_from_in}
use Rattle.theory.specs.Verdict.{Progress, judged_in, verdict_in}
use Rattle.model_facts.specs.declared.Seen.{Seen}
use Rattle.model_progress.specs.declared.Progress.{Progress as CodeProgress}
use Rattle.model_progress.specs.GivenFlags.{ProgressStands}

-- with fuel enough, what is left of the readings gives the verdict
pub record Walk (form : Form) (B : List ℕ) (at : ℕ) (s : CodeProgress) (F : List Bool) : Type 0 where
  pub fuel : ℕ
  pub enough : length B - at < fuel
  pub so_far : Progress
  pub stands : ProgressStands s F so_far
  pub judges : judged_in form (length B) so_far (readings_from_in form B fuel at) ≡ verdict_in form B

-- where a command with a linear is passed, it stands whole at its offset, and the walk goes on behind it with what it leaves
abbrev pub PassesLinear : Form → List ℕ → ℕ → CodeProgress → Option Seen → Type 0
PassesLinear form B at s r = s.begun ≡ true → IfSome r (λ t.
    (at + (1 + linear_bytes form) ≤ length B) × ((F : List Bool) → Walk form B at s F → Walk form B (at + (1 + linear_bytes form)) (record { begun = s.begun; site = s.site; seen = t }) F))
