-- the outcome from the model on
pub mod Delivered
