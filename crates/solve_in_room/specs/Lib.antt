-- What a solve with a given room leaves.
pub mod Solves
