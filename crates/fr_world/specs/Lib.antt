-- what the public contract cites
pub mod Standing
pub mod World
pub mod Ends
-- what only functions inside cite
pub mod Stage
pub mod Succeeding
pub mod Last
