pub mod Session
pub mod Answers
