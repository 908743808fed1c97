pub mod Perm
pub mod Rewrites
