-- Laws that the proofs cite.
pub mod RulesByNumber
pub mod WordHalves
pub mod LeafResults
pub mod WayOn
