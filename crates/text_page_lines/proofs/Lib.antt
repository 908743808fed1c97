-- Laws that several proofs cite.
pub mod ColumnDigits
pub mod LineParts
-- how wide a line is, and that nothing is cut
pub mod LineWidth
pub mod Uncut
