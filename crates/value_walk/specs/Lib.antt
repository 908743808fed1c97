-- Reading a value: the code's terms, given as those of document 01.
pub mod State
pub mod Step
pub mod Out
