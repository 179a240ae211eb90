pub mod Channels
pub mod Sweeps
pub mod Fresh
pub mod NodeIn
pub mod Stages
pub mod Succeeding
pub mod Succeeded
pub mod Listened
pub mod Early
pub mod Asked
pub mod Stepping
pub mod Passed
pub mod Beginners
mod CycleHeld
mod Sent
mod SentCells
mod Both
