-- Laws that several proofs cite.
pub mod Operands
pub mod ReadingSteps
pub mod CutBytes
pub mod CommandParts
pub mod Pass
