-- Laws that several proofs cite.
pub mod Bytes
pub mod Order
pub mod Answered
pub mod Listed
pub mod Solved
pub mod ReadBack
pub mod States
