-- what the public contract cites
pub mod Joins
pub mod Trace
pub mod Items
pub mod Lasting
pub mod Fits
pub mod Cycles
pub mod Rows
pub mod Said
pub mod Order
pub mod Reasons
pub mod Holding
pub mod Text
pub mod Files
pub mod Sound
pub mod Draft
pub mod Told
-- what the laws cite
pub mod Numbered
pub mod Bare
pub mod ReadBack
