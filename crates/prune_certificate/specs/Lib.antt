-- Certificates of paths, on the rows of a lent table.
pub mod Path
