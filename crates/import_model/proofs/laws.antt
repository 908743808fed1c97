-- what the commands of a condition load comes to what the reading means
pub mod Follows
-- what the items of a text load
pub mod Items
-- two processes that agree on their actions
pub mod Alike
-- the model's process and the text's
pub mod Processes
-- rows
pub mod Rows
-- the bytes of commands are read as these commands
pub mod Decode
-- the commands of a text fit their bytes
pub mod Fits
-- each item is the one that gives its slot
pub mod Once
-- the statements
pub mod Statements
