-- The answer of a total.
pub mod Answer
