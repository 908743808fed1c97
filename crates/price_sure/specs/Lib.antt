-- What the call comes to, in the terms of its definition.
pub mod Answers
