-- What a call changes of a directory is a step of the world that it refines.
pub mod RecordOfPeer
pub mod CallsRefine
pub mod DialsRefine
pub mod BlocksRefine
pub mod KnowledgeRefines
