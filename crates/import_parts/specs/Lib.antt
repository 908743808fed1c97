-- the items of a text in their order
pub mod Parts
-- a walk over the bytes that needs no tree
pub mod Walk
-- what is proved
pub mod laws
