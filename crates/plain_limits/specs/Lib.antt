-- Totals and levels, given as the terms of document 01.
pub mod Totals
