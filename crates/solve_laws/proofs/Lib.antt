-- What rests on the theorems of specs/.
pub mod Operated
