-- what the public contract cites
pub mod Control
pub mod Limits
