-- What the rules of one diagram and a bare number do at a node.
pub mod Acts
