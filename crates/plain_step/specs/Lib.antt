-- A step of a model: the state that a point stands for, a setting's weight, and the next state.
pub mod PointState
