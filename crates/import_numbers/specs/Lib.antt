-- what linear a sum is, and the numbers that 25 judges
pub mod Numbers
-- 25 exactly where one is beyond
pub mod Exact
-- numbers at the edge of 32 bits
pub mod Examples
