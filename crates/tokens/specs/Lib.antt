pub mod Held
pub mod Layer
pub mod Layered
pub mod Listed
pub mod Meaning
pub mod Sources
