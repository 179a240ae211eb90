mod ReadBack
mod Rows
pub mod Steps
