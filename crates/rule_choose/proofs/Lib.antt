-- Laws of choices and merges, that several proofs and other crates cite.
pub mod RootCases
pub mod MergeSteps
pub mod ChoiceSteps
pub mod Choices
