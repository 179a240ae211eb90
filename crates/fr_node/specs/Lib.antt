-- what the public contract cites
pub mod View
pub mod Fits
pub mod Cycle
pub mod Listening
pub mod Receptions
-- what only functions inside cite
pub mod Arrivals
