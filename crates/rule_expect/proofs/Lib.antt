-- Laws that several proofs cite.
pub mod ExpectationSteps
pub mod RewardSteps
