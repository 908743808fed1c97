-- Proofs of the statements, over the laws of `theory`.

-- one command in the other form
pub mod OneCommand
-- all commands of a model
pub mod Commands
pub mod Models
-- the rows, and the statements that follow
pub mod Rows
pub mod Statements
