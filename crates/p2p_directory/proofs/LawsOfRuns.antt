-- Laws of whole runs.
pub mod Isolation
pub mod Ordered
pub mod Bounded
pub mod Listed
pub mod Spacing
pub mod Dialled
pub mod GrantRuns
pub mod BlockRuns
pub mod DialRuns
pub mod OrderRuns
pub mod BoundRuns
pub mod GrantCounts
pub mod Lingering
pub mod Repair
pub mod Laws
pub mod Forgotten
pub mod OneCall
pub mod FullQuestions
mod GrantExamples
mod RunExamples
mod ConnectionExamples
