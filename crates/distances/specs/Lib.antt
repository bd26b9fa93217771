-- Pairs of points by their distance.
pub mod Distances
pub mod Placing
pub mod Views
