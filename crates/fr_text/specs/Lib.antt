-- what the public contract cites
pub mod Lines
pub mod Numerals
pub mod Pieces
pub mod Records
pub mod Kind
pub mod Reader
pub mod Refusal
pub mod Fields
pub mod Keys
pub mod Tells
pub mod Takes
pub mod Least
pub mod Forms
pub mod Status
pub mod Told
pub mod Files
pub mod Loading
pub mod Defined
pub mod Plain
-- what the laws cite
pub mod Texts
pub mod ReadBack
