-- Laws that the proofs rest on.
pub mod Rivals
pub mod Turns
pub mod Entry
