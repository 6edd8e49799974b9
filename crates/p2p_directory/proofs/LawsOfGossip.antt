-- Laws of gossip of one node, and of two that exchange infos.
pub mod Lists
pub mod Infos
pub mod Given
pub mod Updates
pub mod Judged
pub mod Wanted
pub mod Exchanges
pub mod Repeated
pub mod Brought
pub mod Greetings
pub mod Late
pub mod Verdicts
pub mod FramesByVerdicts
