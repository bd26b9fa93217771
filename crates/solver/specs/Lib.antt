-- The promises of the solver's functions, and why the code keeps them.
pub mod Call
pub mod Counted
pub mod Solving
pub mod Verdict
pub mod Results
