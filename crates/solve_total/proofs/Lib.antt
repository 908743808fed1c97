-- Laws that the proofs cite.
pub mod Model
pub mod Roots
pub mod Sum
pub mod Whole
