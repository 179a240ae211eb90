-- what the public contract cites
pub mod Hearing
pub mod Obstacles
pub mod Knowing
pub mod Missing
pub mod Zeros
pub mod LeastMissed
pub mod Reasons
pub mod Ranges
