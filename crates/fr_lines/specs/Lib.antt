-- what the public contract cites
pub mod Clocks
pub mod Held
pub mod Sums
pub mod Text
pub mod Told
