pub mod Combined
pub mod Constants
