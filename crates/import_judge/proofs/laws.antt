-- an import is refused so
pub mod Refused
