-- What the writers of a plan promise, in the terms of document 01.
pub mod Plan
