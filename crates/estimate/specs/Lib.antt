pub mod Estimates
pub mod Answers
pub mod Cheapest
pub mod Simple
