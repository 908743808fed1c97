-- Laws of a lent table's rows.
pub mod Rows
pub mod Branches
pub mod Again
