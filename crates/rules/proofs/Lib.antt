-- What follows from the rules: runs of ticks, and the worked cases.
pub mod Ticks
pub mod Runs
pub mod Worked
