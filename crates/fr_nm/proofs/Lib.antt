pub mod Joining
pub mod Found
pub mod Standing
pub mod LeastReason
pub mod Outcomes
pub mod Existence
pub mod Places
pub mod Lines
pub mod Orders
mod Worked
pub mod Decided
