mod Apart
mod Buffers
pub mod Exact
mod Lines
mod Printing
mod Steps
