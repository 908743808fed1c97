-- The bytes of a model in another form, and what the code works with.
pub mod Forms
pub mod OperandLayouts
