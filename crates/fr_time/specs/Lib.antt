-- what the public contract cites
pub mod Position
pub mod Instant
pub mod Walk
pub mod Cycles
pub mod Slots
pub mod Senders
pub mod Placed
pub mod Laws
-- what only functions inside cite
pub mod Counted
