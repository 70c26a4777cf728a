-- The records of a weighbridge's ledger, where they lie, and what each call answers and leaves.
pub mod Layout
pub mod Records
pub mod Book
pub mod Day
pub mod Plan
