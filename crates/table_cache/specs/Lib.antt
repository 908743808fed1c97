-- The computed cache in the work words.
pub mod Cache
