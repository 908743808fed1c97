-- Proofs of the statements, over the laws of `theory`.

-- bytes without the spaces at their end
pub mod Spaces
-- lists of bearers
pub mod Bearers
-- the commands that name actions
pub mod NameCommands
-- numbers of the early refusals
pub mod Early
-- the rows, and the statements that follow
pub mod Rows
pub mod Statements
