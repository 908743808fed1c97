-- Finding an action by its name: definitions, statements, what the code's pass comes to, and laws.
pub mod Find
pub mod Statements
pub mod Tally
-- ---- examples

pub mod Examples
