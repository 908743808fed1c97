-- What is left to run, and what operations on a node table make of it.
pub mod Onward
pub mod Alike
pub mod Operated
pub mod Roots
pub mod Steps
pub mod Loops
pub mod Peaks
pub mod Outcome
