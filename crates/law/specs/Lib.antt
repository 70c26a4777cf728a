-- What the public call `run` promises.
pub mod Run
