-- What the code's values stand for (Spelling); laws of digits, bytes and numbers (Hex).
pub mod Spelling
pub mod Hex
