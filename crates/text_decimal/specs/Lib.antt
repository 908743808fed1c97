-- What a writer promises.
pub mod Put
