-- what the public contract cites
pub mod Whole
pub mod Pages
pub mod ObservedText
pub mod ObserveAnswer
pub mod PowerOn
pub mod FewMissed
pub mod PowerOnAnswer
pub mod SharpGaps
pub mod SharpReport
pub mod SharpReportAnswer
pub mod TracedFigures
pub mod TracedMeaning
pub mod SharpCheckText
pub mod SharpCheckAnswer
pub mod WorkedPowerOn
-- how soon clocks that begin apart are in sync, by the classical bounds
pub mod Way
