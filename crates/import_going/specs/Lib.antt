-- what the code works with: a byte of a walk, and what its answers stand for
pub mod Going
pub mod Turns
