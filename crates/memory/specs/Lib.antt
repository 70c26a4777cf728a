-- The rules of a memory, and of the two memories of this crate.
pub mod Sizes
pub mod Refusals
pub mod Model
pub mod Image
pub mod Journal
pub mod Runs
pub mod Laws
