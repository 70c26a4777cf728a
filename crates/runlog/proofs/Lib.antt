-- Lemmas on texts, numbers, rows and runs.
pub mod Texts
pub mod Numerals
pub mod Replies
pub mod Working
pub mod Lengths
pub mod Going
pub mod Naming
pub mod Logging
pub mod Back
