-- What the certificate's proofs cite.
pub mod Rows
pub mod Signs
pub mod Sums
pub mod Way
pub mod Answers
