pub mod Call
pub mod Frames
pub mod Kept
pub mod Lent
pub mod Shown
pub mod Words
