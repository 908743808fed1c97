-- the way to a result
pub mod Walks
