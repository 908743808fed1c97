-- Laws that several proofs cite, here and in the crates above.
pub mod Signed
pub mod Linears
pub mod Operands
pub mod Forward
pub mod Sizes
