-- what the public contract cites
pub mod Meeting
pub mod Reaching
pub mod RoundsInPart
pub mod Traffic
