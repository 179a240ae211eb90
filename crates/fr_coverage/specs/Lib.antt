-- what the public contract cites
pub mod First
pub mod Links
pub mod Coverage
pub mod Order
pub mod Decided
pub mod Flutter
pub mod Phrases
pub mod Kinds
