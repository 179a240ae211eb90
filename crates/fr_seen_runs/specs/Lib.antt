-- what the public contract cites
pub mod Standings
pub mod ComputedValues
pub mod ComputedTerms
pub mod JudgedTerms
pub mod ToldFaults
pub mod NotContradicted
pub mod OverRows
pub mod ToldDoubles
pub mod InTime
pub mod KnownDoubles
pub mod WorkedLog
pub mod WorkedFaults
pub mod WorkedJudged
pub mod WorkedFile
pub mod WorkedReading
