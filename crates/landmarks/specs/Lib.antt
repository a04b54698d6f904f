pub mod Relaxed
pub mod Rounds
pub mod Laws
pub mod Worked
