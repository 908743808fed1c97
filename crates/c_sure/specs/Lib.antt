-- What the answer is.
pub mod Answer
