pub mod Ranks
pub mod Moves
pub mod Stays
pub mod Slides
