-- The chip's vocabulary, as definitions that contracts and rules cite.
pub mod Sizes
pub mod Wires
pub mod Bits
pub mod Refusals
pub mod Calls
pub mod Slaves
pub mod Pages
pub mod Registers
pub mod Places
pub mod Counter
pub mod Locks
pub mod Pins
pub mod Status
