pub mod Counted
pub mod Counts
pub mod Extremes
pub mod Fits
pub mod Floors
pub mod Limits
pub mod Meets
pub mod MiddleLaws
pub mod Middling
pub mod Ranked
pub mod Numbers
pub mod Spreads
pub mod ValueLaws
mod MiddleRows
