-- The answer to a question about two places (Answers), the searches that it takes (Searches), and the disequalities by distance (Sides).
pub mod Answers
pub mod Searches
pub mod Sides
