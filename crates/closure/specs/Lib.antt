-- The computed closure (Facts, Join, Closure), the verdict (Verdict), differences (Differences), the largest distance (Distance)
-- and that it is reached (Reached), each with the theorem that ties it to the rules.
pub mod Facts
pub mod Join
pub mod Closure
pub mod Verdict
pub mod Differences
pub mod Reached
