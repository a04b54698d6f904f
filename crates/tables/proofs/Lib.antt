pub mod Words
pub mod Walks
pub mod Marks
pub mod Checked
pub mod Records
pub mod Accepts
