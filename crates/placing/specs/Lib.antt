-- Columns of places that are filled from rows, the classes that are given apart, and what the functions ask of their callers.
pub mod Filling
pub mod Apart
pub mod Placed
