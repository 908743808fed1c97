-- Laws of rows made anew.
pub mod RowRemade
pub mod RowsRemade
