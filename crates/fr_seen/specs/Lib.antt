-- what the public contract cites
pub mod Clocks
pub mod Courses
pub mod Skews
pub mod TermsSeen
pub mod RunRows
pub mod Observed
pub mod LogSeen
pub mod OwnSlots
pub mod WorkedStamps
pub mod Contradictions
pub mod Completeness
pub mod LogDoubles
