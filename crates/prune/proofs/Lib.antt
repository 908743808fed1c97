-- Laws behind the proofs.
pub mod Stages
pub mod CutSteps
pub mod Ends
