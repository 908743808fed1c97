-- One operation on a table with its roots.
pub mod Operation
