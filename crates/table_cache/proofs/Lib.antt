-- Laws of the cache's words, that several proofs and other crates cite.
pub mod Entries
