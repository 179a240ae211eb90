pub mod Figures
pub mod Kept
pub mod Found
pub mod KeyIndexes
pub mod KeyNodes
pub mod Elements
