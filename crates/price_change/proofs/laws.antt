-- What is proved of the definitions.

-- totals and means, compared
pub mod Totals
-- two processes that differ in their rewards
pub mod Prices
-- and two models
pub mod Models
-- each action's worth is its total
pub mod Worths
-- what the call says
pub mod Sure
-- the rows, and the statements
pub mod Rows
pub mod Statements
