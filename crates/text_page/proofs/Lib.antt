-- Laws that several proofs cite.
pub mod Early
pub mod Read
pub mod Outcome
