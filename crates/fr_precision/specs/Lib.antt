-- what the public contract cites
pub mod Deviations
pub mod Instants
pub mod Offsets
pub mod Placement
pub mod Rates
pub mod Receivers
pub mod Reception
pub mod Rows
pub mod Step
pub mod Round
-- of the sharper precision
pub mod Ends
pub mod Among
pub mod Alike
pub mod Hearing
pub mod Lengths
pub mod Nearness
pub mod SharpChecks
pub mod SharpRound
pub mod SharpRun
pub mod SharpSettling
pub mod SharpStep
pub mod Steady
