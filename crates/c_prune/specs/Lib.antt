-- The answer of a path.
pub mod Answer
