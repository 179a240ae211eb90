-- what the public contract cites
pub mod Keys
pub mod Held
pub mod Rows
pub mod Reasons
pub mod View
pub mod Inside
pub mod Sane
pub mod Questions
pub mod Draft
pub mod Files
pub mod Written
pub mod Adding
pub mod Holding
pub mod Told
-- what only functions inside cite
pub mod Spans
