-- Laws that the proofs of the code cite.
pub mod Staged
pub mod Stopping
pub mod Replaying
