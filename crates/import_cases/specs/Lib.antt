-- steps in conditions, cases and results
pub mod Cases
