pub mod Endings
pub mod Gathering
mod PutLogs
pub mod Transfers
pub mod Words
