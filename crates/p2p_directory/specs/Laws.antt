-- Words of the laws of whole runs. `run` promises those in Run, and what they rest on.
pub mod Isolation
pub mod Order
pub mod Bounds
pub mod Grants
pub mod GrantRuns
pub mod BlockRuns
pub mod DialRuns
pub mod OrderRuns
pub mod BoundRuns
pub mod GrantCounts
pub mod Lingering
pub mod Repair
pub mod Run
-- What one more call leaves.
pub mod Steps
-- What is kept answers as a world does.
pub mod Refined
-- .. and what each call does to it leads to the next world.
pub mod Effects
-- .. and those in Gossip and LateFrames in what is promised of nodes that exchange infos.
pub mod Gossip
pub mod LateFrames
-- .. and those in Verdicts in what is promised where others verify signatures.
pub mod Verdicts
-- .. and those in Network in what is promised of any number of nodes.
pub mod Network
-- .. of which two nodes are a case.
pub mod TwoNodes
-- .. and nodes that are driven each by its own calls.
pub mod InTurn
-- .. of which the frames of an exchange are some.
pub mod ExchangeFrames
