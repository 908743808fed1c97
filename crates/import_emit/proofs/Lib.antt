-- bytes behind bytes, or longer than the room
pub mod Puts
-- the answers about an item are those of its reading
pub mod Part
-- the loop's invariant
pub mod Going
