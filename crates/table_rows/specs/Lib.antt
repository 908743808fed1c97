-- A node's row, given in the terms of document 01.
pub mod Row
