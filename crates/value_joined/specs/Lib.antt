-- "Two valleys, one total": definitions, statements, and laws.
pub mod Joined
pub mod Total
pub mod TotalRows
pub mod Statements
pub mod Examples
