-- Laws that several proofs cite, here and in the crates above.
pub mod Halves
pub mod Points
pub mod Reach
pub mod Turns
pub mod Sums
pub mod Actions
pub mod PassWords
pub mod Places
pub mod Finds
pub mod Ends
