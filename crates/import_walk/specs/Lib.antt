-- where the steps stop, and what numbers they read
pub mod Onward
-- the two scans
pub mod Scans
-- what the walk answers
pub mod Answers
-- the answers are the reading's
pub mod Steps
