pub mod Join
pub mod Closure
pub mod Verdict
pub mod Different
pub mod Distance
