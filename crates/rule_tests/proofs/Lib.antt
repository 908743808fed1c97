-- Laws of the order of tests and of what lies below a node, that other crates cite as well.
pub mod Comparisons
pub mod Ordered
