-- what a sum of a text is worked out to
pub mod SumAt
