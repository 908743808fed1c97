-- the loops' invariants, and what keeps them
pub mod Loops
-- the answers put together
pub mod Joined
