-- Document 02's page, the widths of its columns, and what it leaves of the buffer.
pub mod Page
pub mod Columns
pub mod Uncut
pub mod Touched
pub mod PageRows
pub mod NoneLine
