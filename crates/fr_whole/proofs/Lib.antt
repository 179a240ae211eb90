mod PageEnds
mod Words
mod Wholes
pub mod ObservedTexts
pub mod Observed
pub mod GapsInOrder
pub mod SharpReports
pub mod ZeroTerms
pub mod LoneLeader
pub mod LedRuns
pub mod FewMissed
pub mod PowerOnTexts
pub mod WorkedLed
pub mod TracedDoubles
pub mod SharpChecks
mod Numbers
mod Settling
