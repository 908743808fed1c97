-- The outcome as the code holds it.
pub mod Out
