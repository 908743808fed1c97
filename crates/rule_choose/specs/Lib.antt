-- How a choice and a merge go on.
pub mod Choice
