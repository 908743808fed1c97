-- ---- definitions

-- the commands that a text becomes
pub mod Commands
-- their bytes
pub mod Encode
-- what a text means at a state
pub mod Meaning
-- the outcome of an import
pub mod Import
-- ---- statements

-- rows, and that the model's values follow the reading
pub mod Statements
-- ---- examples

pub mod Examples
