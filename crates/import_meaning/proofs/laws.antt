-- a sum's linear has the sum's value
pub mod Linear
