pub mod Ranks
pub mod Shape
pub mod Laws
