pub mod Ended
pub mod Holding
pub mod KeySlots
pub mod Telling
