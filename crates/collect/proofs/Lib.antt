pub mod Gathers
pub mod Order
pub mod Needed
