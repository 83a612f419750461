pub mod Drafted
pub mod Reading
