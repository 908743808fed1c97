-- laws that several proofs cite
pub mod Putting
pub mod Stepping
pub mod Looping
