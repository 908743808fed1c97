-- laws that several proofs cite
pub mod Laws
pub mod Places
pub mod Telling
