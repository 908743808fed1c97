-- Whole numbers judged against two words, and those of one bit more.
pub mod Wide
