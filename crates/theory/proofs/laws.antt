-- What is proved about the definitions.

-- computations: what they come to, their runs and events, the nodes that are there
pub mod Comps
pub mod Events
pub mod Inside
pub mod Safe
-- which tests and leaves stand in diagrams, in an accepted model and in its stages
pub mod Nodes
pub mod Valid
pub mod AcceptedModel
pub mod Good
-- the value that is meant, and what diagrams and stages come to
pub mod Total
pub mod Lists
pub mod Process
pub mod Values
pub mod Expectation
pub mod Stages
-- tables: nodes and their numbers, counts, words, readings
pub mod Table
pub mod Counts
pub mod Peaks
pub mod Words
pub mod ValueWalk
-- refusals, peak and rows
pub mod Refusals
pub mod Chain
pub mod Rules
pub mod Fits
pub mod Rows
pub mod Numbers
pub mod Name
-- plain working
pub mod Plain
pub mod PlainLimits
