-- Pairs that are marked (Marks), those at a distance (Pairs), what is known of all of them (Known), classes and disequalities (Classes),
-- rows set by words (Rows), homes in classes that are apart from one (Far).
pub mod Classes
pub mod Far
pub mod Known
pub mod Marks
pub mod Pairs
pub mod Rows
pub mod Single
