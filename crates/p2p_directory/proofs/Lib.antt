pub mod Definitions
pub mod LawsOfRuns
pub mod Refinement
pub mod Reservations
pub mod Nodes
pub mod LawsOfGossip
pub mod LawsOfNetworks
