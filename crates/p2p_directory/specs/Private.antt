-- Words of private contracts. Nobody outside of the crate sees them.
pub mod Slots
pub mod Serving
pub mod Frames
pub mod Exchanging
pub mod Networks
