-- Lemmas that the proofs of the functions cite.
pub mod Appending
pub mod Playing
pub mod Reading
