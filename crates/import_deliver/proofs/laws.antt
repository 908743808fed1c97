-- an import from its model on
pub mod Passes
