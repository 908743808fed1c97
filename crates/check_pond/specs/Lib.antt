-- What a failed write leaves of the pond's tables.
pub mod Left
