-- What the listing promises, in the terms of document 01.
pub mod Refusal
pub mod Answer
