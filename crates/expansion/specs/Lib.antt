-- The pair table over homes, expanded to all terms (Expand), and rows of it by words (Rows).
pub mod Expand
pub mod Rows
