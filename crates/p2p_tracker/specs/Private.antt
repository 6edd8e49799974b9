-- Words of private contracts. Nobody outside of the crate sees them.
pub mod Window
pub mod Expirations
pub mod Places
pub mod Counts
pub mod Dialling
pub mod Asked
pub mod Among
pub mod Walked
