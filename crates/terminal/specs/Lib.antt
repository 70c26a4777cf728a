-- What the terminal's calls on the wires are, and what it takes off the rows that come back.
pub mod Calls
pub mod Rows
pub mod Bills
