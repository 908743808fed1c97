-- Laws of the roots and of the walk over the commands.
pub mod Places
pub mod Turns
pub mod Ends
