pub mod Rehash
