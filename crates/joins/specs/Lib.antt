-- The labels of the union-find (Labels), and joins of dereferences of one address (Meeting).
pub mod Labels
pub mod Meeting
