-- what only functions inside cite
pub mod Measured
pub mod Controls
pub mod Walked
pub mod Corrections
pub mod Allowed
pub mod Followed
-- what the public contract cites
pub mod CheckAnswer
pub mod UnlawfulText
pub mod VerdictText
