pub mod LinearSteps
