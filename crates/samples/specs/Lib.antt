-- What the samples' contracts speak of.
pub mod Texts
