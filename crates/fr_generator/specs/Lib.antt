-- what the public contract cites
pub mod Drawn
pub mod Cluster
pub mod Places
pub mod Steps
pub mod Making
pub mod Generated
pub mod Seeds
pub mod MadeFiles
