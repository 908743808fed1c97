-- Laws that several proofs cite.
pub mod Pass
pub mod BearersMet
pub mod Call
-- what is proved about the definitions of specs/
pub mod laws
