-- Laws, and a proof of each statement.
pub mod Means
pub mod Joined
pub mod Sites
pub mod Cases
pub mod Rows
pub mod Statements
