-- what the public contract cites
pub mod Ranges
pub mod Scales
pub mod Measures
pub mod Readings
pub mod Course
pub mod Spread
pub mod Terms
pub mod Middles
pub mod Computed
pub mod Numbering
pub mod Near
-- what only functions inside cite
pub mod Corners
pub mod Extremes
pub mod Ends
