-- Laws behind the proofs.
pub mod Rooted
pub mod Loops
pub mod Whole
