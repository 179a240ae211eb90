pub mod Missed
pub mod Printing
pub mod Gaps
pub mod Outcomes
pub mod Within
pub mod Over
