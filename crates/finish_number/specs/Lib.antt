-- The canonical numbering, as it stands in the work words.
pub mod Number
