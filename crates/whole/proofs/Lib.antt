-- Laws that several proofs cite.
pub mod Signed
pub mod Laws
pub mod Euclid
pub mod Divided
pub mod TwoWords
pub mod Filled
pub mod Clipped
pub mod Comparing
pub mod Loops
pub mod Products
