-- what the public contract cites
pub mod Frame
pub mod Fault
pub mod Refusal
pub mod Reading
