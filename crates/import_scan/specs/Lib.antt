-- what the scanner answers
pub mod Answer
-- each answer with when it is given
pub mod ScanRows
-- what is kept of the reader's state
pub mod Shown
