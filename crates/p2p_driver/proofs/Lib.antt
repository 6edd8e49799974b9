pub mod Kept
pub mod Firsts
pub mod Least
pub mod Greatest
pub mod Crowded
pub mod Fairness
pub mod Answered
pub mod Linked
pub mod Entries
pub mod Due
pub mod KeptGrants
mod Shutting
mod Fewer
mod Called
mod StreamHistory
mod LinkHistory
mod GrantHistory
mod Dials
mod Unused
mod Metered
mod Placed
mod Paced
mod Standing
mod Status
mod Counted
mod Dialable
mod Quiet
mod Driving
mod DrivingDials
mod DrivingSets
mod DrivingTimers
mod Busy
mod InTime
mod Taken
mod Closed
mod Budget
mod Numbers
mod Lasting
mod DrivingLinks
mod DrivingGrants
mod DrivingApplication
mod DrivingFrames
mod DrivingReads
mod DrivingSays
mod DrivingVerdicts
mod Payloads
mod Reserved
mod Judging
mod Claims
mod Waiting
mod Greeted
mod Beginnings
mod Causes
mod Asked
mod Signatures
mod Little
mod Turns
mod Queued
mod Spared
mod Later
mod Early
mod Shown
mod ShownDial
mod Spelled
mod Fitting
mod Reading
