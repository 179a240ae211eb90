-- what the public contract cites
pub mod Channels
pub mod Counts
pub mod Device
pub mod Event
pub mod Number
pub mod Reason
pub mod Rows
pub mod States
pub mod Within
pub mod Timed
