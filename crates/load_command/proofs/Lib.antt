-- Laws of the commands on the stack.
pub mod Puts
pub mod Steps
