-- Stages on a table with its roots.
pub mod Stages
