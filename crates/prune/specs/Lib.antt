-- What a path leaves.
pub mod CutOutcome
