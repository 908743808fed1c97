-- What is proved of the definitions.

-- an accepted certificate excludes every state
pub mod Excluded
-- tables that anyone wrote, as diagrams
pub mod Foreign
-- what is read afterwards
pub mod Reads
-- what is left fits
pub mod Fits
-- the rows, and the statements
pub mod Rows
pub mod Statements
