-- ---- laws
pub mod laws
