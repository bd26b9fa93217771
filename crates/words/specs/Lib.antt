-- Words of 64 bits of a byte table (Words).
pub mod Words
