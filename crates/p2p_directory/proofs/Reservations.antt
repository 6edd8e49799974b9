-- What is held, and the commands of a run.
pub mod Slots
pub mod Removed
pub mod Holding
pub mod Effects
pub mod Served
pub mod Replies
pub mod Torn
