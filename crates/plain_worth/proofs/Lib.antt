-- Laws that the proofs cite.
pub mod Runs
pub mod Answers
pub mod Turns
pub mod Entry
