-- The pair table over columns of places: the table (Table).
pub mod Table
pub mod Views
