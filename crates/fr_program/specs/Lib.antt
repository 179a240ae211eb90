-- what the public contract cites
pub mod Around
pub mod AskedNames
pub mod Command
pub mod DiskShelf
pub mod Failure
pub mod Gathered
pub mod MemoryShelf
pub mod MemorySink
pub mod Program
pub mod PutLog
pub mod PutMarks
pub mod StreamSink
pub mod SureShelf
pub mod Watched
