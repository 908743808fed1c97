-- What the writers of a line promise, in the terms of document 01.
pub mod Lines
