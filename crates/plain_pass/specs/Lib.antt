-- What a pass over a model's commands comes to at a state.
pub mod Pass
pub mod Parts
