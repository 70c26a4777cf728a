-- Lemmas that the proofs of the functions cite.
pub mod Rules
pub mod Places
pub mod Images
pub mod ByteLaws
pub mod WordLaws
pub mod JournalLaws
pub mod RunLaws
