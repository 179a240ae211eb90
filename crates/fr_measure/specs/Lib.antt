-- what the public contract cites
pub mod Readings
pub mod Values
pub mod Deviations
