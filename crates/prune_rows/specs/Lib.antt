-- The rows of a lent table, as nodes.
pub mod Rows
