-- commands by their operands, and the room that they want
pub mod Writes
