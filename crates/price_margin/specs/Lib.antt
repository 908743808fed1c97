-- The largest worth of all actions but the best.
pub mod Rivals
