-- what a text is encoded as are bytes
pub mod Bytes
