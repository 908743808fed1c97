-- What value iteration leaves.
pub mod Iteration
