-- what the public contract cites
pub mod Counting
pub mod Verdict
pub mod Census
pub mod Text
pub mod Judged
pub mod Outcomes
pub mod Within
-- what only functions inside cite
pub mod Ground
