-- Diagrams in a node table: what its words mean, and what the rules on it do.
pub mod Codes
pub mod Nodes
pub mod Table
pub mod EntryMeaning
pub mod Roots
