-- Proofs of the statements, over the laws of `theory`.

-- the value that is meant, as 01 writes it
pub mod Weights
pub mod Chances
pub mod Formula
pub mod Spelled
-- diagrams as they are written
pub mod Written
-- 11, 12 and the peak
pub mod Peak
-- tests and the order down a path
pub mod Divided
pub mod Order
pub mod Narrowed
pub mod Ordered
pub mod OrderedStages
pub mod Reduced
-- equal fractions
pub mod Scaling
pub mod SameValue
-- the demands
pub mod Demands
pub mod Advice
-- K4
pub mod Parallel
-- K8
pub mod Forbidden
pub mod Peaks
-- K11
pub mod Override
pub mod OverrideCase
