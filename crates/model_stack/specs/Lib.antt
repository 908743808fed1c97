-- What a stack holds.
pub mod Held
