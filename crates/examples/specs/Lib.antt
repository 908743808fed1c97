-- the pond, rain, and what is marked ★
pub mod Examples
-- K10, a path that no state can take
pub mod Paths
-- K12, a price change that matters and one that does not
pub mod Prices
