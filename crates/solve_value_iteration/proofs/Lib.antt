-- Laws that the proofs cite.
pub mod Start
pub mod Parts
pub mod LoadPeaks
pub mod Runs
