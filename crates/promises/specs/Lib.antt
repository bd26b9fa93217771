-- The page of statements.
pub mod Promises
