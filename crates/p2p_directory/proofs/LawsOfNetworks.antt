-- Laws of gossip of any number of nodes.
pub mod Provenance
pub mod Newer
pub mod Exchanges
pub mod Reach
pub mod Frames
pub mod Replied
pub mod Laws
pub mod InTurn
pub mod ExchangeFrames
-- .. of which two nodes are a case.
pub mod TwoNodes
