-- The log and the reply: the definitions that the contracts cite.
pub mod Texts
pub mod Numbers
pub mod Calls
pub mod Left
pub mod Reply
pub mod Run
pub mod Lines
pub mod Board
pub mod Back
