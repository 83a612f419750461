pub mod Filling
pub mod Meant
pub mod Names
pub mod Nodes
pub mod Numbering
pub mod Spots
