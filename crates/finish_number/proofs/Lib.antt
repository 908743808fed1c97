pub mod Numbers
pub mod Enter
pub mod Rootwise
