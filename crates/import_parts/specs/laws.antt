-- a text is its site and its parts in order, in bytes and in commands
pub mod Order
-- the walk reads numbers, and the site
pub mod Meets
-- the walk reads an item's opening, and finds its end
pub mod Items
-- the walk reads a name
pub mod Names
-- each item stands where the one before ends
pub mod Walks
-- no number of an item is beyond
pub mod Within
