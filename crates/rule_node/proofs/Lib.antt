-- Laws of diagrams in a table, that several proofs and other crates cite.
pub mod Trees
pub mod Outcomes
pub mod TreeMade
pub mod BranchNode
pub mod CacheEntries
pub mod Parallels
pub mod TwoOperands
pub mod RuleSteps
pub mod LeafNumbers
pub mod Meanings
