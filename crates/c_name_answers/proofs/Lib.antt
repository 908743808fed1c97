-- Laws that several proofs cite.
pub mod Named
pub mod Looked
