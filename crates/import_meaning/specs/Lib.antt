-- what a sum means at a state
pub mod Sums

-- what is proved
