-- How the code's answers are read in the terms of document 01.
pub mod Parts
