-- Old models into new, and back: definitions, statements, what the code works with, and laws.
pub mod Conversion
pub mod Statements
pub mod Written
-- ---- examples

pub mod Examples
