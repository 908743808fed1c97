-- Laws that several proofs cite.
pub mod Puts
pub mod Numbers
pub mod Rows
