-- Laws of choices by commands.
pub mod Tests
pub mod Commands
