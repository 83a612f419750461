pub mod Cuts
pub mod Decided
pub mod OneWay
pub mod Runs
pub mod Stood
