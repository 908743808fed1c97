-- Laws that several proofs cite, here and in `substitute`.
pub mod Entries
