-- A path copied behind a lent table's rows.
pub mod Copy
