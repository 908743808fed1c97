-- places in the text, and the commands there
pub mod Places
-- items by their openings and cases
pub mod Cases
