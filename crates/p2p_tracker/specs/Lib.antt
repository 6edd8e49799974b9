-- What a directory promises rests on these: read them in this order.
pub mod Calls
pub mod Moments
pub mod Status
pub mod PeerSets
pub mod Lists
pub mod Blocks
pub mod Cooldowns
pub mod History
pub mod World
pub mod Answers
pub mod Seen
pub mod Record
pub mod Directory
-- Dials of the peers that an answer of `dialable` names.
pub mod Dials
pub mod Private
