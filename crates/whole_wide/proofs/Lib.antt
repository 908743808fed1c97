-- Laws that several proofs cite.
pub mod Halves
pub mod Signs
pub mod Judged
pub mod Powers
