pub mod Case
-- the machine reads what the grammar writes; one reading
pub mod Reads
-- the pieces of the machine are the text so far
pub mod Holds
-- every machine that is not dead leads to a reading; every byte string has its outcome
pub mod Viable
-- at most one place
pub mod Unique
