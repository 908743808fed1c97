-- Laws that several proofs cite.
pub mod Accept
pub mod Linears
pub mod Down
pub mod Outcome
