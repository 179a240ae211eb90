pub mod Found
pub mod There
pub mod Damped
mod Rows
