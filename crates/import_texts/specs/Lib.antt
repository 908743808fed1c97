-- conditions of a text
pub mod Conditions
-- whole texts
pub mod Texts
