-- what the public contract cites
pub mod Said
pub mod Deeds
pub mod Sayings
pub mod Columns
pub mod Deed
pub mod Rows
pub mod Reasons
pub mod View
pub mod Fields
pub mod Events
pub mod Draft
pub mod Files
pub mod Written
pub mod Adding
pub mod Holding
pub mod Promises
pub mod Told
