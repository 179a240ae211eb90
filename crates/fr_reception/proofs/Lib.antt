pub mod Answers
pub mod Frames
pub mod Early
pub mod Carried
