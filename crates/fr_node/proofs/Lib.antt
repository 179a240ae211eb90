pub mod Written
pub mod Fitting
pub mod Floors
pub mod Placing
pub mod Ending
pub mod Beginning
pub mod Receptions
