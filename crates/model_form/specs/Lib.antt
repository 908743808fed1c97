-- The form of a model in the terms of document 02.
pub mod Forms
