-- What the answers about names are.
pub mod Names
pub mod FindAnswer
