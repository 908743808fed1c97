-- Whole numbers: what the kit's integers lack, and the definitions that the contracts cite.
pub mod Cases
pub mod Int
pub mod Divisor
pub mod Within
pub mod Linears
pub mod Numerator
pub mod Magnitude
pub mod WithinLaws
pub mod NumeratorLaws
pub mod LinearsLaws
