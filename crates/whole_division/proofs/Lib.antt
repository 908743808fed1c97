-- Laws that several proofs cite.
pub mod Long
pub mod Signs
