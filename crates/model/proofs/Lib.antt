-- Laws that several proofs cite.
pub mod Walk
pub mod LinearTurns
pub mod Accepted
