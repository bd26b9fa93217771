-- The promise of `tell_differences`, and why the places of columns that were filled from rows keep it.
pub mod Telling
pub mod Apartness
pub mod Meaning
pub mod Asked
pub mod Answered
pub mod Views
