pub mod Counts
pub mod Ascending
pub mod MidpointLemmas
pub mod Found
pub mod There
pub mod ReadBack
pub mod Products
pub mod Zips
pub mod SaidLemmas
pub mod Agreement
mod Receiving
mod Rows
mod SaidLists
