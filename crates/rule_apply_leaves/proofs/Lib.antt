pub mod Constants
pub mod LeafPairs
pub mod LeafRules
