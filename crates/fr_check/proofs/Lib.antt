mod Taking
mod Controlling
mod Ranks
mod Walking
mod Sounded
mod Followed
mod Gathering
mod Judging
mod Kept
mod AlikeCycles
mod Quotients
pub mod Decided
