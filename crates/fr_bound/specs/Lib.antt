-- what the public contract cites
pub mod Bounds
pub mod Checks
pub mod DoubleNumbers
pub mod Greatest
pub mod Judged
pub mod Outweighing
pub mod Settling
pub mod SharpBounds
pub mod SharpChecks
pub mod SharpSpreads
pub mod Sync
