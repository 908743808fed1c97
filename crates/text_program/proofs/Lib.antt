-- What the listing program prints, from what it calls.
pub mod Prints
