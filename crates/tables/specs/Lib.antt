pub mod Problem
pub mod Chains
pub mod Kinds
pub mod Faults
pub mod Texts
pub mod Check
pub mod Rules
