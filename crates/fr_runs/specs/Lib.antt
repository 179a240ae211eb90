-- what the public contract cites
pub mod Links
pub mod Exchange
pub mod Terms
pub mod Hearers
pub mod Drawn
pub mod Gathered
pub mod Succession
pub mod References
pub mod Rounds
pub mod Precision
pub mod Whole
pub mod Stated
pub mod Numbers
pub mod Apart
pub mod Room
pub mod Listening
pub mod Following
pub mod Group
pub mod Spread
pub mod Supplied
-- of the sharper precision
pub mod Flutter
pub mod SharpHistories
pub mod SteadyRuns
