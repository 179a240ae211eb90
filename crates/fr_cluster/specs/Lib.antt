-- what the public contract cites
pub mod Ranges
pub mod Values
pub mod Numbers
pub mod Constraints
pub mod Sane
pub mod View
pub mod Questions
pub mod Searches
pub mod Setting
