-- What making anew leaves.
pub mod Remade
