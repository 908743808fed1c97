-- Laws that the proofs rest on.
pub mod Margins
