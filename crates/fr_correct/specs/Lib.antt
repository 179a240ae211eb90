-- what the public contract cites
pub mod Damping
pub mod Terms
