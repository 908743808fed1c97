-- Laws of the rules of one diagram, that the proofs cite.
pub mod UnarySteps
pub mod RulesByName
