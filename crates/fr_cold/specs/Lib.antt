-- what the public contract cites
pub mod Node
pub mod Cluster
pub mod StartupLaws
pub mod Connected
pub mod Rows
pub mod Moves
pub mod Keys
pub mod Reasons
pub mod View
pub mod Inside
pub mod Questions
pub mod Files
pub mod Holding
pub mod Leads
pub mod Cold
pub mod Told
-- what only functions inside cite
pub mod Draft
pub mod Spans
pub mod Events
pub mod ColdAnswer
pub mod ColdText
