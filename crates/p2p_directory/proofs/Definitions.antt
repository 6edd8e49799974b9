-- What the definitions imply: the main law, and what each answer is determined by.
pub mod Steps
pub mod Law
pub mod Latest
pub mod Start
pub mod Keys
pub mod Targets
pub mod Setting
pub mod GossipExamples
mod FrameExamples
pub mod ExchangePremises
pub mod LatePremises
mod CarriedExamples
mod ForeignNodes
mod VerdictExamples
mod InTurnExamples
mod ExchangeFramesExamples
pub mod ByteKeys
pub mod ShownRun
pub mod RunPremises
pub mod RunFrames
pub mod RunLaws
pub mod WrongReplies
pub mod PairRun
pub mod NewNode
mod Examples
mod Corners
mod Forgetting
