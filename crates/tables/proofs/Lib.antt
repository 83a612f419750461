pub mod Kept
pub mod Meant
pub mod Named
pub mod Numbered
pub mod Rows
