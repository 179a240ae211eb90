pub mod Standing
pub mod Beginning
pub mod Filling
pub mod Walking
pub mod Rows
pub mod Decided
pub mod Going
