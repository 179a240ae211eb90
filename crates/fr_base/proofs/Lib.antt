pub mod Putting
pub mod Products
