-- what the public contract cites
pub mod Sync
pub mod Breach
pub mod Gaps
pub mod Answer
pub mod Precision
pub mod Heard
-- the same as functions
pub mod Search
pub mod FirstGap
pub mod OtherGaps
-- worked rows
pub mod Worked
-- what only functions inside and above cite
pub mod Sound
pub mod Counted
pub mod Doubles
pub mod Runs
pub mod RunFits
pub mod CoveredRuns
pub mod FileRuns
-- of the sharper precision
pub mod SharpTraces
pub mod Alike
pub mod WorkedTrace
