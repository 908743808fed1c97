-- Laws that several proofs cite.
pub mod Numbers
pub mod Zeros
pub mod Runs
pub mod Flags
pub mod StateAfter
