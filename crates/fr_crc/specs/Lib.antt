-- what the public contract cites
pub mod Bits
pub mod Crc
pub mod Register
pub mod Computed
pub mod Entries
