-- Laws that the proofs cite.
pub mod Empty
pub mod Left
