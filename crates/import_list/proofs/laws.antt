-- how far a place lies behind another
pub mod Shorter
-- one step of the list
pub mod Steps
