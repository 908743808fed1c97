-- What solving leaves.
pub mod SolveOutcome
