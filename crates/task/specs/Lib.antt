pub mod States
pub mod Tasks
pub mod Walk
pub mod Plans
pub mod Meaning
