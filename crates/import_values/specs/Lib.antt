-- nine numbers of linears, and lists of numbers judged
pub mod Linears
-- coefficients, and numbers within 32 bits
pub mod Within
-- what the run makes of white space and numbers
pub mod Reads
-- what it makes of sums
pub mod Sums
