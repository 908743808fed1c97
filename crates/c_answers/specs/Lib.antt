-- What the exports promise, in the terms of document 01.
pub mod Answers
pub mod SolveAnswer
pub mod Texts
