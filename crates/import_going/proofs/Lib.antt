pub mod Steps
pub mod Reaching
