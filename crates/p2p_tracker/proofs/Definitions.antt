-- What the definitions imply of one peer, of lists, and of the answers of `dialable`.
pub mod Knowledge
pub mod Listed
pub mod Members
pub mod Quiet
