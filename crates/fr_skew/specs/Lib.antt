-- what the public contract cites
pub mod Gauge
pub mod Laws
pub mod Spreads
pub mod Sweep
pub mod Sync
-- what only functions inside cite
pub mod Alike
pub mod Courses
pub mod Extents
pub mod Stretches
