-- what the public contract cites
pub mod Frames
pub mod Rest
pub mod View
pub mod Walk
pub mod CaptureAnswer
pub mod CaptureText
