-- Document 01: definitions in its order, the rows of its table of refusals, and under proofs/laws what is proved about them. Its demands and what goes with them are in `theorems`.

-- ---- definitions

-- the numbers that 01 fixes
pub mod Widths
pub mod Form
-- "The site model"
pub mod Command
pub mod Verdict
pub mod Valid
pub mod Load
-- "The value that is meant"
pub mod Total
pub mod Process
pub mod Loss
pub mod Meaning
-- "Diagrams"
pub mod Diagram
pub mod Computation
pub mod Rules
pub mod Stage
-- "Tables after solving"
pub mod Peaks
pub mod Solve
-- "States and values"
pub mod Value
pub mod Plain
pub mod Staying
pub mod Name
-- "The pond, and its listing"
pub mod Listing
-- ---- statements

-- "What a refusal gives": its rows, and 11 and 12 by what is named and made
pub mod Rows
pub mod Events
