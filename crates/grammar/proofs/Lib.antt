mod Closing
mod Counted
mod Cycle
mod Ending
mod Filling
mod Finishing
mod Judgement
mod Leaves
mod Mapped
mod Moves
mod Rooting
mod Ruling
mod Sequences
mod Sorted
mod Soundness
pub mod Spelled
