-- what the public contract cites
pub mod Request
pub mod SeriesAnswer
pub mod Figures
pub mod Scale
pub mod SeriesText
pub mod Writing
pub mod SeriesMeaning
pub mod Basis
pub mod SharpAnswer
pub mod SharpLosses
pub mod SharpMeaning
pub mod SharpText
pub mod Stopping
pub mod Statuses
