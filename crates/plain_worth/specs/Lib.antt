-- Plain working: what its parts come to, in the terms of document 01.
pub mod Worths
