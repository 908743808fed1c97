-- "Paths that no state can take": definitions, statements, and laws.
pub mod Prune
pub mod PruneRows
pub mod Statements
