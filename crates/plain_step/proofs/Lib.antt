-- Laws that the proofs cite.
pub mod Lists
pub mod Weigh
pub mod NextStates
