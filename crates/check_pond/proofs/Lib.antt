-- The pond's steps: what each leaves, and what it asks.
pub mod Operations
