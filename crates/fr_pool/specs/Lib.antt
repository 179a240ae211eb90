-- what the public contract cites
pub mod Lending
pub mod Pool
