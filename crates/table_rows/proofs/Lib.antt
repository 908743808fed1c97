-- Laws of rows, that several proofs and other crates cite.
pub mod Judged
pub mod Rowed
