-- frames, and what a byte does to one
pub mod Frames
-- frames stay within 32 bits
pub mod Kept
