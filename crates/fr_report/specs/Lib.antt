-- what the public contract cites
pub mod Worlds
pub mod RunText
pub mod MakeAnswer
pub mod TraceAnswer
pub mod Files
pub mod Names
