-- what the public contract cites
pub mod Regular
pub mod Offers
pub mod Answers
pub mod Listening
