pub mod Ordered
pub mod Emptied
