-- laws that several proofs cite
pub mod Words
-- what is proved about the definitions of specs/
pub mod laws
