-- walks over the bytes of a sum
pub mod Passing
-- the three walks of the emitter
pub mod Walks
-- what the places in the text emit is what the reading becomes
pub mod Found
-- no place of a text is behind too many brackets
pub mod Depth
