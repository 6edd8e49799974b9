-- What a session is given, what it answers, and what its calls do: read them in this order.
pub mod Refusals
pub mod Schemes
pub mod Firsts
pub mod Keys
pub mod Answers
pub mod Given
pub mod Frames
pub mod Sessions
pub mod Requests
pub mod Steps
pub mod Alike
pub mod Addresses
-- The law of whole sessions.
pub mod Laws
-- .. and that of sessions that are called in turn.
pub mod Networks
