-- what is written of the items, and of the whole text
pub mod Items
