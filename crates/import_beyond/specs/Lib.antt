-- 25
pub mod Beyond
