-- the steps agree with the reader's
pub mod Agree
-- the rows are the answers
pub mod Rows
