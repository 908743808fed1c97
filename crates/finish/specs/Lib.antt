-- The tables after solving.
pub mod Finish
