-- What `run` promises of replies and of what is left rests on these: read them in this order.
pub use Rattle.p2p_tracker.specs.Calls
pub use Rattle.p2p_tracker.specs.Moments
pub use Rattle.p2p_tracker.specs.Status
pub use Rattle.p2p_tracker.specs.PeerSets
pub use Rattle.p2p_tracker.specs.Lists
pub use Rattle.p2p_tracker.specs.Blocks
pub use Rattle.p2p_tracker.specs.Cooldowns
pub use Rattle.p2p_tracker.specs.History
pub use Rattle.p2p_tracker.specs.World
pub use Rattle.p2p_tracker.specs.Answers
pub use Rattle.p2p_tracker.specs.Seen
pub use Rattle.p2p_tracker.specs.Record
pub use Rattle.p2p_tracker.specs.Directory
pub mod Refinement
pub mod Run
-- What nodes promise rests on these, too.
pub mod Received
pub mod Nodes
-- .. and what an exchange, a run of any number of nodes and a run of two promise, on these.
pub mod Exchange
pub mod Network
pub mod Pairs
-- What is held of grants.
pub mod Held
-- When an answer of `dialable` stands: what `run` says of dials rests on it.
pub use Rattle.p2p_tracker.specs.Dials
-- Laws of whole runs. What `run` says of its replies together is in `Run`, what networks promise in
-- `Network`, and what is promised of two nodes in `TwoNodes`.
pub mod Laws
pub mod Private
