-- A number's bytes as std writes them (Bytes).
pub mod Bytes
