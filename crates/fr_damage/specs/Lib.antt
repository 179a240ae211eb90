-- what the public contract cites
pub mod Damage
pub mod Flips
