-- 10, 24 and 25
pub mod Refusal
-- what is left when none of these is given
pub mod Sound
