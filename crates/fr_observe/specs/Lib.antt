-- what the public contract cites
pub mod Observing
pub mod Faults
pub mod Telling
pub mod Skews
pub mod Scenes
pub mod Ranges
