-- what is written
pub mod Emitting
