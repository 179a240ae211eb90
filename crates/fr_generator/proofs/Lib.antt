pub mod MadeCluster
pub mod Apart
pub mod Clocks
pub mod Chances
pub mod Turns
pub mod Worked
pub mod Seeds
pub mod MadeFiles
