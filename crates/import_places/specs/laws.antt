-- the bits that signs take
pub mod Signs
