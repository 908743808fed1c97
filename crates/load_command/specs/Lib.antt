-- What one command of the model does to the stack and the table.
pub mod CommandStep
