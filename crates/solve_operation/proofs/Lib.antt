-- Laws that the proofs cite.
pub mod Roots
pub mod Rules
pub mod Done
pub mod Parts
