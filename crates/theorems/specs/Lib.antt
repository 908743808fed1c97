-- What is proved of document 01's definitions: its demands and what goes with them, as types; their proofs stand under proofs/laws. Nothing above needs more of it than Advice.

-- ---- statements

-- what they are said with: diagrams as they are written, the order down a path, fractions
pub mod Written
pub mod Ordered
pub mod Reduced
pub mod Fraction
-- the demands
pub mod Demands
-- demands 2 and 3 of one call that solves and then reads
pub mod Advice
-- K4, parallel tests
pub mod Parallel
-- K8, actions that are not permitted
pub mod Forbidden
-- K9, a peak for each action
pub mod Peaks
-- K11, how much an override loses
pub mod Override
