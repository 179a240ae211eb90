-- what the public contract cites
pub mod Judging
pub mod Sightings
pub mod Senders
pub mod Computing
pub mod Ranges
pub mod Sure
-- what only functions inside cite
pub mod Passing
