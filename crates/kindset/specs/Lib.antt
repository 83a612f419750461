pub mod Bits
pub mod Member
