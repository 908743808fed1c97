-- the run over bytes
pub mod Run
-- what a walk over a text's bytes ends with
pub mod Walks
