-- Laws that several proofs cite.
pub mod Every
pub mod Judged
pub mod Outcome
