-- what the public contract cites
pub mod Numbers
pub mod Rows
pub mod Reasons
pub mod View
pub mod Fields
pub mod Files
pub mod Holding
pub mod Told
-- what only functions inside cite
pub mod Draft
