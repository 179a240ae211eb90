pub mod Clear
pub mod Least
pub mod Rows
pub mod ZeroTerms
pub mod LeastMissed
pub mod Reasons
