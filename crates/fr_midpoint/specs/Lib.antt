-- what the public contract cites
pub mod Midpoint
pub mod Receivers
pub mod Said
