-- what is read at a place
pub mod Looks
