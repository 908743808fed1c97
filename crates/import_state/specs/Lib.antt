-- bytes and letters
pub mod Bytes
-- steps in a sum
pub mod Sums
