-- Chains of numbers by key.
pub mod Buckets
