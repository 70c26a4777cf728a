-- What each call of the module does, step by step: the definitions that the contracts cite.
pub mod Memories
pub mod State
pub mod Frame
pub mod Stop
pub mod Store
pub mod Timer
pub mod Step
pub mod Answers
pub mod Service
pub mod Replay
