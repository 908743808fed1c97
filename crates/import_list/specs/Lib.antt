-- what is still to be written
pub mod Pending
-- entries as words
pub mod Packed
