-- Laws that the proof cites.
pub mod Judged
-- what is proved about the definitions of specs/
pub mod laws
