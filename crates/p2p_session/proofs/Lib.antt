pub mod Puts
pub mod Unread
pub mod Heard
pub mod Rooms
pub mod Direct
pub mod Compared
pub mod Bootstrappers
pub mod Setups
pub mod Keys
pub mod Requests
pub mod Spellings
pub mod Steps
pub mod Served
pub mod Parts
pub mod Told
pub mod Alike
pub mod Wants
pub mod Looked
pub mod Represented
pub mod Networks
mod ShownSteps
mod ShownAnswers
mod ShownSession
mod ShownNetworks
mod ShownExchange
