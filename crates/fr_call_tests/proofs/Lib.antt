pub mod Accepted
pub mod Assembled
mod Following
