-- What is proved about the definitions of specs/.
pub mod laws
