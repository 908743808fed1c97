-- Laws of a path copied.
pub mod StandIn
pub mod Paths
pub mod Copies
pub mod Walk
