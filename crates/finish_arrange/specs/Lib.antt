-- Nodes brought into the order of their numbers.
pub mod Arrange
