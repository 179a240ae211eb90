pub mod Onward
pub mod Told
pub mod Firsts
