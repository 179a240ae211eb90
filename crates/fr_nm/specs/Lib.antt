-- what the public contract cites
pub mod Vectors
pub mod View
pub mod Inside
pub mod Text
pub mod Rows
pub mod Reasons
pub mod Files
pub mod Holding
pub mod Laws
pub mod Told
pub mod NmAnswer
