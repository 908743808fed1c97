-- "Does a price change matter?": definitions, statements, and laws.
pub mod Sure
pub mod Prices
pub mod Statements
pub mod SureRows
