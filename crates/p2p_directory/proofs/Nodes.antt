-- Nodes: what holds of their servers holds of them, what they answer by what is seen they answer in
-- their worlds, and what was spelled they read as it is.
pub mod Standing
pub mod HeldAfter
pub mod Worlds
pub mod ReadBack
pub mod Exchanging
pub mod Carried
-- .. and what one of a network answers is what is replied to a command.
pub mod Frames
pub mod Among
pub mod Networks
pub mod NetworkRuns
pub mod TwoNodes
