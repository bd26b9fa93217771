-- Runs of bytes as numbers, and numbers as bytes (Bytes).
pub mod Bytes
