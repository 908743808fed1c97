-- What the proofs cite.
pub mod Judged
