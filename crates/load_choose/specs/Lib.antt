-- The tests that a model's commands give, and what a cache entry means while the model is loaded.
pub mod CommandTest
