-- a step from any state
pub mod Steps
